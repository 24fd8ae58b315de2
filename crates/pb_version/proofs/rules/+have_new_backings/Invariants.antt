use Rattle.std.proofs.Common.{length}
use Rattle.pb_version.proofs.rules.+have_new_backings.Given as goal

abbrev pub decreases-have_new_backings : goal.decreases-have_new_backings
decreases-have_new_backings l = length l.new.now
