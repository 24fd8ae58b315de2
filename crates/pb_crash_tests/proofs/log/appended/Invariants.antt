use Rattle.std.proofs.Common.{◌≡◌}
use Rattle.pb_crash_tests.proofs.Driving.{IsAppending}
use Rattle.pb_crash_tests.proofs.log.appended.Given as goal

abbrev pub invariant-loop-payload : goal.invariant-loop-payload
invariant-loop-payload g l = (l.done ≡ l.payload-index) × IsAppending g.D.Disk.told l.payloads l.done l.fn.name l.log (g.D.Disk.contents l.disk)
