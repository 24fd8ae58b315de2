-- Words as they may stand in a line.
use Rattle.std.specs.Prelude.{◌≡◌, ℕ, ◌<◌, ◌==◌, false, List, [], ◌∷◌, ◌++◌, length, replicate}
use Rattle.std.specs.List.{AllByRecursion}

abbrev pub spaces : ℕ → List ℕ
spaces count = replicate count 32

-- each word with how many spaces stand behind it; between two words there is one more than that
abbrev pub spaced_words : List (List ℕ × ℕ) → List ℕ
spaced_words [] = []
spaced_words (word ∷ []) = word.0 ++ spaces word.1
spaced_words (word ∷ next ∷ words) = word.0 ++ 32 ∷ (spaces word.1 ++ spaced_words (next ∷ words))

-- and so many spaces before the first
abbrev pub spaced : ℕ → List (List ℕ × ℕ) → List ℕ
spaced front words = spaces front ++ spaced_words words

-- some bytes, and no space
abbrev pub IsSolid : List ℕ → Type 0
IsSolid word = (0 < length word) × AllByRecursion (λ byte. (byte == 32) ≡ false) word
