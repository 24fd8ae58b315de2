-- How a byte string is printed.
use Rattle.std.specs.Prelude.{ℕ, ◌/◌, ◌%◌, ◌==◌, Bool, ◌&&◌, not, if◌then◌else◌, nat_le, List, [], ◌∷◌, codes}
use Rattle.std.specs.Char.{digit_char}
use Rattle.std.specs.List.{flat_map}

-- from 0x21 to 0x7E and not `%`
abbrev pub is_plain : ℕ → Bool
is_plain byte = nat_le 33 byte && nat_le byte 126 && not (byte == 37)

-- a plain byte as itself, another as `%` and two lower-case hexadecimal digits
abbrev pub printed_byte : ℕ → List ℕ
printed_byte byte = if is_plain byte then byte ∷ [] else 37 ∷ digit_char (byte / 16) ∷ digit_char (byte % 16) ∷ []

-- a byte string: byte by byte, and `%` for the empty string
abbrev pub word : List ℕ → List ℕ
word [] = codes "%"
word (byte ∷ bytes) = flat_map printed_byte (byte ∷ bytes)
