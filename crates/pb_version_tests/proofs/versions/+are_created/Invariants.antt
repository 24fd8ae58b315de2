use Rattle.std.proofs.Common.{length}
use Rattle.pb_version_tests.proofs.versions.+are_created.Given as goal

abbrev pub decreases-are_created : goal.decreases-are_created
decreases-are_created l = length l.created.now
