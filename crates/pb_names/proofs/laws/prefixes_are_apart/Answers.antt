use Rattle.pb_names.proofs.NamedLemmas.{prefixes_are_apart}
use Rattle.pb_names.proofs.laws.prefixes_are_apart.Goals as goal

pub returns : goal.returns
returns c = prefixes_are_apart
