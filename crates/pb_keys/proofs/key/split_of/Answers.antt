use Rattle.std.proofs.Common.{arith}
use Rattle.pb_keys.proofs.KeyFacts.{suffix_start_is}
use Rattle.pb_keys.proofs.key.split_of.Goals as goal

pub returns-then-byte-eq-AT : goal.returns-then-byte-eq-AT
returns-then-byte-eq-AT c = suffix_start_is _ _ (omega arith) c.loop-at.invariant (λ _. c.if-byte-eq-AT.true)

pub returns : goal.returns
returns c = suffix_start_is _ _ (omega arith) (λ k h. c.loop-at.invariant k (omega arith)) (λ h. absurd (omega arith))
