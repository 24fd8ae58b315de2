use Rattle.std.proofs.Common.{length}
use Rattle.pb_ingest_tests.proofs.versions.+are_physical.Given as goal

abbrev pub decreases-are_physical : goal.decreases-are_physical
decreases-are_physical l = length l.physical.now
