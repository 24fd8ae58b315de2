-- Numbers of four and eight bytes, the highest byte first.
use Rattle.std.specs.Prelude.{ℕ, ◌+◌, ◌*◌, ◌/◌, ◌%◌, ◌^◌, ◌<◌, List, [], ◌∷◌, length, slice_index}

unfoldable pub be32 : ℕ → List ℕ
be32 value = value / 2 ^ 24 % 256 ∷ value / 2 ^ 16 % 256 ∷ value / 2 ^ 8 % 256 ∷ value % 256 ∷ []

unfoldable pub be64 : ℕ → List ℕ
be64 value =
    value / 2 ^ 56 % 256 ∷ value / 2 ^ 48 % 256 ∷ value / 2 ^ 40 % 256 ∷ value / 2 ^ 32 % 256
    ∷ value / 2 ^ 24 % 256 ∷ value / 2 ^ 16 % 256 ∷ value / 2 ^ 8 % 256 ∷ value % 256 ∷ []

-- the number that bytes read as, the highest first
unfoldable pub number_of : List ℕ → ℕ
number_of [] = 0
number_of (byte ∷ rest) = byte * 256 ^ length rest + number_of rest

-- each is below 256
abbrev pub AreBytes : List ℕ → Type 0
AreBytes bytes = (place : ℕ) → slice_index bytes place < 256
