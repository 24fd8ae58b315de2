use Rattle.pb_compact.proofs.MapKept.{map_kept}
use Rattle.pb_compact.proofs.laws.compacting.compacted_keeps_the_map.Goals as goal

pub returns : goal.returns
returns c = map_kept
