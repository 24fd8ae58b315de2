use Rattle.std.proofs.Common.{length}
use Rattle.pb_version.proofs.scans.+has_number_on.Given as goal

abbrev pub decreases-has_number_on : goal.decreases-has_number_on
decreases-has_number_on l = length l.levels.now
