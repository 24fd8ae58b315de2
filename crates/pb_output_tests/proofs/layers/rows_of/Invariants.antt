use Rattle.std.specs.Prelude.{All}
use Rattle.pb_rows.specs.Layer.{IsShortRow}
use Rattle.pb_output_tests.proofs.layers.rows_of.Given as goal

abbrev pub invariant-loop-key : goal.invariant-loop-key
invariant-loop-key l = All IsShortRow l.rows.items
