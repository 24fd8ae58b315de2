use Rattle.std.proofs.Common.{arith}
use Rattle.pb_block.proofs.Keys.{all_shared}
use Rattle.pb_block.proofs.spelling.common_len.Goals as goal

pub returns-clause-len : goal.returns-clause-len
returns-clause-len c =
    let none = all_shared c.args.a.now c.args.b.now c.loop-at.at (omega (arith, c.min-most.ensures, c.loop-at-test.false)) in
    omega (arith, none, c.loop-at.invariant, c.min-most.ensures, c.loop-at-test.false, c.loop-at.auto.at-end)
