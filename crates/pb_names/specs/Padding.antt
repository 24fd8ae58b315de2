-- A name's bytes: its text, and zeros behind it.
use Rattle.std.specs.Prelude.{◌≡◌, ℕ, ◌-◌, ◌≤◌, List, ◌++◌, length, take, drop, replicate}
use Rattle.std.specs.Str.{IsAscii}
use Rattle.std.proofs.Common.{ap, sym, ◌∙◌, subst, length-take-le, take-append-drop}

-- the text fits and is ASCII, and nothing but zeros is behind it
pub record IsPadded (len : ℕ) (bytes : List ℕ) : Type 0 where
  pub short : len ≤ 64
  pub full : length bytes ≡ 64
  pub zeros : drop len bytes ≡ replicate (64 - len) 0
  pub ascii : IsAscii (take len bytes)

pub length-IsPadded : (len : ℕ) (bytes : List ℕ) → IsPadded len bytes → length (take len bytes) ≡ len
length-IsPadded len bytes p = length-take-le len bytes (subst (λ n. len ≤ n) (sym p.full) p.short)

-- so the text alone gives the bytes back
pub bytes-IsPadded : (len : ℕ) (bytes : List ℕ) → IsPadded len bytes
    → take len bytes ++ replicate (64 - length (take len bytes)) 0 ≡ bytes
bytes-IsPadded len bytes p =
    ap (λ n. take len bytes ++ replicate (64 - n) 0) (length-IsPadded len bytes p)
    ∙ ap (λ zeros. take len bytes ++ zeros) (sym p.zeros)
    ∙ take-append-drop len bytes
