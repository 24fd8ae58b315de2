use Rattle.std.proofs.Common.{◌≡◌, length}
use Rattle.pb_table.specs.Spelling.{row_spelling}
use Rattle.pb_table.specs.Spells.{IsTableRow}
use Rattle.pb_table.proofs.CountedLemmas.{ReadSoFar}
use Rattle.pb_table.proofs.rows.read_rows.Given as goal

abbrev pub invariant-loop : goal.invariant-loop
invariant-loop l = record {
  number : length l.rows.items ≡ l.counter;
  so_far : ReadSoFar row_spelling IsTableRow l.from l.count l.rows.items l.rest;
}
