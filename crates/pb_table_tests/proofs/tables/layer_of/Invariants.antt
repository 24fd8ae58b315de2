use Rattle.std.specs.List.{All}
use Rattle.pb_rows.specs.Layer.{IsShortRow}
use Rattle.pb_table_tests.proofs.tables.layer_of.Given as goal

abbrev pub invariant-loop-key : goal.invariant-loop-key
invariant-loop-key l = All IsShortRow l.rows.items
