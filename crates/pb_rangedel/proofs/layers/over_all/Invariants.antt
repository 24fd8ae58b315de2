use Rattle.std.proofs.Common.{◌≡◌, vec_len}
use Rattle.pb_rows.specs.Over.{over_all}
use Rattle.pb_rangedel.proofs.layers.over_all.Given as goal

abbrev pub invariant-loop-layers : goal.invariant-loop-layers
invariant-loop-layers l = over_all l.layers.items ≡ over_all l.fn.newest_first

abbrev pub decreases-loop-layers : goal.decreases-loop-layers
decreases-loop-layers l = vec_len l.layers
