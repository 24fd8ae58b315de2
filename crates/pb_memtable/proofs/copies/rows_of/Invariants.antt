use Rattle.std.proofs.Common.{◌≡◌, take}
use Rattle.pb_memtable.specs.Search.{rows_at}
use Rattle.pb_memtable.proofs.copies.rows_of.Given as goal

abbrev pub invariant-loop-place : goal.invariant-loop-place
invariant-loop-place l = l.rows.items ≡ rows_at l.changes (take l.place-index l.places)
