use Rattle.std.proofs.Common.{◌≡◌, take}
use Rattle.pb_ingest.specs.Planned.{numbers_of}
use Rattle.pb_ingest_tests.proofs.plans.numbers_of.Given as goal

abbrev pub invariant-loop-table : goal.invariant-loop-table
invariant-loop-table l = l.numbers.items ≡ numbers_of (take l.table-index l.written)
