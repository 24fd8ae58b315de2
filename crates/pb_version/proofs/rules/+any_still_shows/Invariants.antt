use Rattle.std.proofs.Common.{length}
use Rattle.pb_version.proofs.rules.+any_still_shows.Given as goal

abbrev pub decreases-any_still_shows : goal.decreases-any_still_shows
decreases-any_still_shows l = length l.levels.now
