-- What a file's payloads are, and what is said of them.
use Rattle.std.proofs.Common.{◌≡◌, ℕ, List, Option, Some, None, IsSome, refl}
use Rattle.std.specs.Prelude.{IsSomeAnd}
use Rattle.pb_gate_log.specs.Payloads.{HasList, payloads, payloads_in}

pub has_payloads : (list : List (List ℕ)) (image : Option (List ℕ)) → HasList list image → payloads_in image ≡ list
has_payloads list None has = absurd has
has_payloads list (Some bytes) has = has

-- a file that is there has its own payloads
pub has_own : (file : Option (List ℕ)) → IsSome file → HasList (payloads_in file) file
has_own None there = cc
has_own (Some bytes) there = refl

pub such_in : (file : Option (List ℕ)) (AreSuch : List (List ℕ) → Type 0) → IsSomeAnd file (λ bytes. AreSuch (payloads bytes))
    → AreSuch (payloads_in file)
such_in None AreSuch such = absurd such
such_in (Some bytes) AreSuch such = such

-- two facts on the payloads of one file
pub both_read : {Fact : Type 0} (file : Option (List ℕ)) (One Other : List (List ℕ) → Type 0)
    → IsSomeAnd file (λ bytes. One (payloads bytes)) → IsSomeAnd file (λ bytes. Other (payloads bytes))
    → ((list : List (List ℕ)) → One list → Other list → Fact) → Fact
both_read None One Other one other both = absurd one
both_read (Some bytes) One Other one other both = both (payloads bytes) one other
