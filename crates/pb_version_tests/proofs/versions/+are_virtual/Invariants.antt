use Rattle.std.proofs.Common.{length}
use Rattle.pb_version_tests.proofs.versions.+are_virtual.Given as goal

abbrev pub decreases-are_virtual : goal.decreases-are_virtual
decreases-are_virtual l = length l.virtuals.now
