-- Readings one behind the other, taken apart.
use Rattle.std.proofs.Common.{◌≡◌, ℕ, List, [], ◌∷◌, ◌++◌, length, Option, Some, None, false, refl, sym, ap, ◌∙◌, append_assoc}
use Rattle.std.specs.Prelude.{◌==◌, option_map}
use Rattle.std.proofs.lemmas.Option.{same_Some}
use Rattle.pb_bytes.specs.Reading.{◌>>=◌, behind}

-- a step that found something
pub bind_some : {A B : Type 0} (read : Option A) (f : A → Option B) (y : B) → (read >>= f) ≡ Some y
    → (x : A) × (read ≡ Some x) × (f x ≡ Some y)
bind_some (Some x) f y e = (x, refl, e)
bind_some None f y e = absurd cc

-- what was read with the bytes behind it was read with the length of its spelling
pub split_some : {A : Type 0} (bytes : List ℕ) (read : Option (A × ℕ)) (x : A × List ℕ) → option_map (behind bytes) read ≡ Some x
    → (y : A × ℕ) × (read ≡ Some y) × (behind bytes y ≡ x)
split_some bytes None x e = absurd cc
split_some bytes (Some y) x e = (y, refl, same_Some (behind bytes y) x e)

-- bytes that begin with this spelling, behind which the rest stands
abbrev pub Splits : List ℕ → List ℕ → List ℕ → Type 0
Splits bytes spelling rest = bytes ≡ spelling ++ rest

-- two spellings, one behind the other
pub both_split : (bytes middle rest a b : List ℕ) → Splits bytes a middle → Splits middle b rest → Splits bytes (a ++ b) rest
both_split bytes middle rest a b front back = front ∙ ap (λ (t : List ℕ). a ++ t) back ∙ sym (append_assoc a b rest)

-- bytes that were found not to be at their end
pub some_left : (bytes : List ℕ) → false ≡ (length bytes == 0) → bytes ≡ [] → ⊥
some_left [] is none = absurd (cc)
some_left (byte ∷ bytes) is none = absurd (cc)
