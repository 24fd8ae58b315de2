use Rattle.std.proofs.Common.{◌≡◌, ◌+◌, ◌-◌, ◌<◌, ◌≤◌, ◌++◌, length, get_or}
use Rattle.pb_keys.specs.Key.{prefix_of}
use Rattle.pb_rangedel.specs.Merging.{rest_of}
use Rattle.pb_rangedel.specs.Spans.{EndUpto}
use Rattle.pb_rows.specs.Layer.{KeyRow}
use Rattle.pb_rows.specs.Over.{rows_over, uncovered}
use Rattle.pb_rangedel.proofs.rows.merge.Given as goal

abbrev pub invariant-loop-step : goal.invariant-loop-step
invariant-loop-step l = record {
  rows : l.out.items ++ rest_of l.dels l.newer l.older l.new l.old ≡ rows_over l.newer (uncovered l.dels l.older);
  newer_within : l.new ≤ length l.newer;
  older_within : l.old ≤ length l.older;
  passed : (d : KeyRow) → l.old < length l.older → EndUpto (prefix_of (get_or l.older l.old d).key) l.dels l.passed;
}

abbrev pub decreases-loop-step : goal.decreases-loop-step
decreases-loop-step l = (length l.newer - l.new) + (length l.older - l.old)
