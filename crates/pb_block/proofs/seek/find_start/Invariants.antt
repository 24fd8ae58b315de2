use Rattle.std.proofs.Common.{◌*◌, ◌-◌, ◌≤◌, length}
use Rattle.pb_block.specs.Cursors.{PassesOver}
use Rattle.pb_block.proofs.seek.find_start.Given as goal

abbrev pub invariant-loop-low : goal.invariant-loop-low
invariant-loop-low g l = record { passes : PassesOver l.entries l.prefix l.suffix l.start; within : 4 * l.high ≤ length l.restarts }

abbrev pub decreases-loop-low : goal.decreases-loop-low
decreases-loop-low g l = l.high - l.low
