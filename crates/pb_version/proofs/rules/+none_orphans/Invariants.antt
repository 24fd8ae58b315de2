use Rattle.std.proofs.Common.{length}
use Rattle.pb_version.proofs.rules.+none_orphans.Given as goal

abbrev pub decreases-none_orphans : goal.decreases-none_orphans
decreases-none_orphans l = length l.from.now
