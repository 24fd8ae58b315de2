use Rattle.pb_names.proofs.NamedLemmas.{prefix_tells_shared}
use Rattle.pb_names.proofs.laws.prefix_tells_shared.Goals as goal

pub returns : goal.returns
returns c = prefix_tells_shared
