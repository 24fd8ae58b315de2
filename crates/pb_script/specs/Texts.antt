-- The texts of a script's lines.
use Rattle.std.specs.Prelude.{◌≡◌, ℕ, ◌==◌, false, true, ◌⊎◌, if◌then◌else◌, List, [], ◌∷◌, length}
use Rattle.std.specs.List.{AllByRecursion, slice_split}
use Rattle.std.specs.Io.BufRead.{ends_with_byte, strip_last}

-- each part but the last is behind it parted by LF, and is without one CR at its end. A last part that is empty is no line
abbrev pub lines_of_parts : List (List ℕ) → List (List ℕ)
lines_of_parts [] = []
lines_of_parts (part ∷ []) = if length part == 0 then [] else part ∷ []
lines_of_parts (part ∷ next ∷ parts) = strip_last 13 part ∷ lines_of_parts (next ∷ parts)

-- each line ends with LF, and the last may lack it
abbrev pub texts_of : List ℕ → List (List ℕ)
texts_of script = lines_of_parts (slice_split (λ byte. byte == 10) script)

abbrev pub HasNoFeed : List ℕ → Type 0
HasNoFeed text = AllByRecursion (λ byte. (byte == 10) ≡ false) text

-- lines whole, each with its LF
abbrev pub AreWhole : List ℕ → Type 0
AreWhole script = (script ≡ []) ⊎ (ends_with_byte 10 script ≡ true)
