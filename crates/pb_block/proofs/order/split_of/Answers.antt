use Rattle.std.proofs.Common.{arith}
use Rattle.pb_keys.proofs.KeyFacts.{suffix_start_is}
use Rattle.pb_block.proofs.order.split_of.Goals as goal

pub returns-then-byte-eq-AT-clause-start : goal.returns-then-byte-eq-AT-clause-start
returns-then-byte-eq-AT-clause-start c = suffix_start_is _ _ (omega arith) c.loop-at.invariant (λ _. c.if-byte-eq-AT.true)

pub returns-clause-start : goal.returns-clause-start
returns-clause-start c = suffix_start_is _ _ (omega arith) (λ k h. c.loop-at.invariant k (omega arith)) (λ h. absurd (omega arith))
