use Rattle.pb_names.proofs.NamedLemmas.{prefix_tells_markers}
use Rattle.pb_names.proofs.laws.prefix_tells_markers.Goals as goal

pub returns : goal.returns
returns c = prefix_tells_markers
