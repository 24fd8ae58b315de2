use Rattle.std.proofs.Common.{◌≡◌, drop}
use Rattle.pb_version.specs.Rules.{are_all_apart}
use Rattle.pb_version.proofs.scans.are_all_apart.Given as goal

abbrev pub invariant-loop-at : goal.invariant-loop-at
invariant-loop-at l = are_all_apart l.level l.tables ≡ are_all_apart l.level (drop l.at l.tables)
