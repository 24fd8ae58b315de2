use Rattle.pb_names.proofs.NamedLemmas.{prefix_is_no_name}
use Rattle.pb_names.proofs.laws.prefix_is_no_name.Goals as goal

pub returns : goal.returns
returns c = prefix_is_no_name
