use Rattle.std.proofs.Common.{◌≡◌, ◌++◌, length, take}
use Rattle.std.specs.List.{flat_map}
use Rattle.pb_bytes.specs.Varint.{varint}
use Rattle.pb_table.specs.Spelling.{row_spelling}
use Rattle.pb_table.proofs.rows.put_rows.Given as goal

abbrev pub invariant-loop-row : goal.invariant-loop-row
invariant-loop-row l = l.out.items ≡ l.fn.out.items ++ (varint (length l.rows) ++ flat_map row_spelling (take l.row-index l.rows))
