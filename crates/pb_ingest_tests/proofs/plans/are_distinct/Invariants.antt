use Rattle.std.proofs.Common.{◌≡◌, drop}
use Rattle.pb_version.specs.Rules.{are_distinct}
use Rattle.pb_ingest_tests.proofs.plans.are_distinct.Given as goal

abbrev pub invariant-loop-at : goal.invariant-loop-at
invariant-loop-at l = are_distinct l.numbers ≡ are_distinct (drop l.at l.numbers)
