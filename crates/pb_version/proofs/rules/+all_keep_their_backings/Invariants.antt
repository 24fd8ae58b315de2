use Rattle.std.proofs.Common.{length}
use Rattle.pb_version.proofs.rules.+all_keep_their_backings.Given as goal

abbrev pub decreases-all_keep_their_backings : goal.decreases-all_keep_their_backings
decreases-all_keep_their_backings l = length l.levels.now
