use Rattle.std.proofs.Common.{◌-◌, length}
use Rattle.pb_keys.specs.Key.{prefix_of}
use Rattle.pb_rangedel.specs.Spans.{EndUpto}
use Rattle.pb_rangedel.proofs.rows.hides.Given as goal

abbrev pub invariant-loop-at : goal.invariant-loop-at
invariant-loop-at l = EndUpto (prefix_of l.key) l.dels l.at

abbrev pub decreases-loop-at : goal.decreases-loop-at
decreases-loop-at l = length l.dels - l.at
