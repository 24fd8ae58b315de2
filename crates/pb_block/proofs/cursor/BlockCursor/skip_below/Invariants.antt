use Rattle.std.proofs.Common.{◌≡◌, length}
use Rattle.pb_block.specs.Blocks.{rows_from}
use Rattle.pb_block.proofs.cursor.BlockCursor.skip_below.Given as goal

abbrev pub invariant-loop-self : goal.invariant-loop-self
invariant-loop-self l = rows_from l.self.left l.prefix l.suffix ≡ rows_from l.fn.self.left l.prefix l.suffix

abbrev pub decreases-loop-self : goal.decreases-loop-self
decreases-loop-self l = length l.self.left
