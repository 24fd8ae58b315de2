use Rattle.std.proofs.Common.{length}
use Rattle.pb_version.proofs.rules.+fit_within.Given as goal

abbrev pub decreases-fit_within : goal.decreases-fit_within
decreases-fit_within l = length l.new.now
