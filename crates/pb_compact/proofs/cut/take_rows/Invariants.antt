use Rattle.std.proofs.Common.{◌≡◌, ◌++◌, length}
use Rattle.std.specs.Prelude.{filter, not}
use Rattle.pb_rows.specs.Layer.{Rise}
use Rattle.pb_compact.specs.Cutting.{is_row_below}
use Rattle.pb_compact.proofs.cut.take_rows.Given as goal

abbrev pub invariant-loop-rows : goal.invariant-loop-rows
invariant-loop-rows l = record {
  taken : l.taken.items ++ filter (is_row_below l.end) l.rows.items ≡ filter (is_row_below l.end) l.fn.rows.items;
  left : filter (λ row. not (is_row_below l.end row)) l.rows.items ≡ filter (λ row. not (is_row_below l.end row)) l.fn.rows.items;
  rise : Rise l.rows.items;
}

abbrev pub decreases-loop-rows : goal.decreases-loop-rows
decreases-loop-rows l = length l.rows.items
