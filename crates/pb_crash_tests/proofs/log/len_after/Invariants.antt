use Rattle.std.proofs.Common.{◌≡◌, ℕ, List, true}
use Rattle.pb_gate_log.specs.EachLog.{EachLog}
use Rattle.pb_crash_tests.proofs.log.len_after.Given as goal

abbrev pub invariant-loop-payload : goal.invariant-loop-payload
invariant-loop-payload g l = g.D.Disk.told ≡ true → (list : List (List ℕ)) × EachLog l.log list (g.D.Disk.contents l.disk)
