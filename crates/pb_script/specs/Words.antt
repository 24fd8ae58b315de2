-- The words of a line.
use Rattle.std.specs.Prelude.{ℕ, Bool, true, false, not, ◌==◌, ◌||◌, ◌&&◌, nat_le, if◌then◌else◌, List, [], ◌∷◌, length}
use Rattle.std.specs.List.{slice_split, filter}

abbrev pub has_bytes : List ℕ → Bool
has_bytes part = not (length part == 0)

-- one or more spaces part the words, and may stand at either end
abbrev pub words_of : List ℕ → List (List ℕ)
words_of text = filter has_bytes (slice_split (λ byte. byte == 32) text)

-- from 0x21 to 0x7E
abbrev pub is_graphic : ℕ → Bool
is_graphic byte = nat_le 33 byte && nat_le byte 126

-- a byte that a line may hold which is no comment
abbrev pub is_of_lines : ℕ → Bool
is_of_lines byte = byte == 32 || is_graphic byte

-- the words behind a part, and the part itself where it has bytes
abbrev pub with_part : List ℕ → List (List ℕ) → List (List ℕ)
with_part part words = if has_bytes part then part ∷ words else words

abbrev pub begins_with_hash : List ℕ → Bool
begins_with_hash [] = false
begins_with_hash (byte ∷ bytes) = byte == 35

abbrev pub has_no_word : List (List ℕ) → Bool
has_no_word [] = true
has_no_word (word ∷ words) = false

-- a comment, whatever it holds, an empty line, or a line of spaces alone
abbrev pub is_skipped : List ℕ → Bool
is_skipped text = begins_with_hash text || has_no_word (words_of text)
