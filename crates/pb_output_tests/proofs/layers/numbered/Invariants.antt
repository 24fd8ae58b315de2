use Rattle.std.specs.Prelude.{All}
use Rattle.pb_rows.specs.Layer.{IsShortRow}
use Rattle.pb_output_tests.proofs.layers.numbered.Given as goal

abbrev pub invariant-loop-number : goal.invariant-loop-number
invariant-loop-number l = All IsShortRow l.rows.items
