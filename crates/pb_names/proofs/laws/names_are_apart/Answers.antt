use Rattle.pb_names.proofs.NamedLemmas.{names_are_apart}
use Rattle.pb_names.proofs.laws.names_are_apart.Goals as goal

pub returns : goal.returns
returns c = names_are_apart
