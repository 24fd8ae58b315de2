-- What bytes written over others leave.
use Rattle.std.proofs.Common.{◌≡◌, ℕ, ◌+◌, ◌-◌, ◌<◌, ◌≤◌, ◌⊎◌, inl, inr, max, List, ◌++◌, length, take, drop, get_or, arith, length-append, length-drop}
use Rattle.std.proofs.lemmas.Grind.{common_steps}
use Rattle.std.proofs.lemmas.List.{length-take}
use Rattle.pb_devices.specs.DiskCalls.{over}

pub length-over : (before : List ℕ) (at : ℕ) (bytes : List ℕ) → at ≤ length before → length (over before at bytes) ≡ max (length before) (at + length bytes)
length-over before at bytes within = simp (length-append, length-take, length-drop) (omega arith)

-- Bytes put over others from a place on, as far as those reach.

pub length-put_over : (before : List ℕ) (at : ℕ) (bytes : List ℕ)
    → length (take at before ++ take (length before - at) bytes ++ drop (at + length bytes) before) ≡ length before
length-put_over before at bytes = simp (length-append, length-take, length-drop) (omega arith)

-- outside of what is put over, the bytes stay
pub put_over-outside : (before : List ℕ) (at : ℕ) (bytes : List ℕ) (place : ℕ) → place < length before → (place < at) ⊎ (at + length bytes ≤ place)
    → get_or (take at before ++ take (length before - at) bytes ++ drop (at + length bytes) before) place 0 ≡ get_or before place 0
put_over-outside before at bytes place below (inl front) = grind (arith, common_steps)
put_over-outside before at bytes place below (inr behind) = grind (arith, common_steps)
