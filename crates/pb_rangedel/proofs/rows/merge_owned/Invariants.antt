use Rattle.std.proofs.Common.{◌≡◌, ◌+◌, ◌<◌, ◌++◌, length, get_or}
use Rattle.pb_keys.specs.Key.{prefix_of}
use Rattle.pb_rangedel.specs.Merging.{rest_of}
use Rattle.pb_rangedel.specs.Spans.{EndUpto}
use Rattle.pb_rows.specs.Layer.{KeyRow, Rise}
use Rattle.pb_rows.specs.Over.{rows_over, uncovered}
use Rattle.pb_rangedel.proofs.rows.merge_owned.Given as goal

abbrev pub invariant-loop-step : goal.invariant-loop-step
invariant-loop-step l = record {
  rows : l.out.items ++ rest_of l.dels l.newer.items l.older.items 0 0 ≡ rows_over l.fn.newer.items (uncovered l.dels l.fn.older.items);
  newer : Rise l.newer.items;
  older : Rise l.older.items;
  passed : (d : KeyRow) → 0 < length l.older.items → EndUpto (prefix_of (get_or l.older.items 0 d).key) l.dels l.passed;
}

abbrev pub decreases-loop-step : goal.decreases-loop-step
decreases-loop-step l = length l.newer.items + length l.older.items
