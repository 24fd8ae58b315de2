use Rattle.std.proofs.Common.{length}
use Rattle.pb_version.proofs.rules.+any_frees_physical.Given as goal

abbrev pub decreases-any_frees_physical : goal.decreases-any_frees_physical
decreases-any_frees_physical l = length l.levels.now
