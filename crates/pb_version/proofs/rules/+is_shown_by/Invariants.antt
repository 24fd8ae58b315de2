use Rattle.std.proofs.Common.{length}
use Rattle.pb_version.proofs.rules.+is_shown_by.Given as goal

abbrev pub decreases-is_shown_by : goal.decreases-is_shown_by
decreases-is_shown_by l = length l.new.now
