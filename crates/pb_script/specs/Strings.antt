-- How a word spells a byte string, a name, a store or a level.
use Rattle.std.specs.Prelude.{◌≡◌, ℕ, ◌+◌, ◌-◌, ◌*◌, ◌&&◌, ◌==◌, if◌then◌else◌, nat_le, nat_lt, List, [], ◌∷◌, map, Option, Some, None, codes}
use Rattle.std.specs.Char.{digit_value}
use Rattle.std.specs.List.{flat_map}
use Rattle.std.specs.Str.{bytes_eq}
use Rattle.pb_keys.specs.Printed.{is_plain}
use Rattle.pb_names.specs.Ranges.{is_name}
use Rattle.pb_script.specs.Answers.{◌>>=◌}

-- two hexadecimal digits of either case
abbrev pub hex_pair : ℕ → ℕ → Option ℕ
hex_pair high low =
    if nat_lt (digit_value high) 16 && nat_lt (digit_value low) 16 then Some (16 * digit_value high + digit_value low) else None

-- a byte from 0x21 to 0x7E that is not `%`, as itself
abbrev pub plain : ℕ → Option ℕ
plain byte = if is_plain byte then Some byte else None

abbrev pub with_byte : Option ℕ → Option (List ℕ) → Option (List ℕ)
with_byte first others = do
  byte ← first
  bytes ← others
  Some (byte ∷ bytes)

-- a plain byte, or `%` and the two digits of one byte
unfoldable pub bytes_of : List ℕ → Option (List ℕ)
bytes_of [] = Some []
bytes_of (byte ∷ []) = with_byte (plain byte) (Some [])
bytes_of (byte ∷ next ∷ []) = with_byte (plain byte) (with_byte (plain next) (Some []))
bytes_of (byte ∷ high ∷ low ∷ rest) =
    if byte == 37 then with_byte (hex_pair high low) (bytes_of rest) else with_byte (plain byte) (bytes_of (high ∷ low ∷ rest))

-- `%` alone is the empty string
unfoldable pub string_of : List ℕ → Option (List ℕ)
string_of [] = None
string_of (byte ∷ bytes) = if bytes_eq (byte ∷ bytes) (codes "%") then Some [] else bytes_of (byte ∷ bytes)

abbrev pub name_of : List ℕ → Option (List ℕ)
name_of word = if is_name word then Some word else None

-- 1 for `A` to 8 for `H`
abbrev pub store_of : List ℕ → Option ℕ
store_of (byte ∷ []) = if nat_le 65 byte && nat_le byte 72 then Some (byte - 64) else None
store_of word = None

-- one digit, `0` to `5`
abbrev pub level_of : List ℕ → Option ℕ
level_of (byte ∷ []) = if nat_le 48 byte && nat_le byte 53 then Some (byte - 48) else None
level_of word = None

-- a byte in a word: itself, or `%` and two digits
pub data ByteSpelling : Type 0 where
  Itself : ℕ → ByteSpelling
  Coded : ℕ → ℕ → ByteSpelling

abbrev pub spelled_byte : ByteSpelling → List ℕ
spelled_byte (Itself byte) = byte ∷ []
spelled_byte (Coded high low) = 37 ∷ high ∷ low ∷ []

-- what it spells: a plain byte itself, and two hexadecimal digits of either case their byte
abbrev pub meant_byte : ByteSpelling → Option ℕ
meant_byte (Itself byte) = plain byte
meant_byte (Coded high low) = hex_pair high low

-- a word that spells these bytes, one by one
abbrev pub Spells : List ℕ → List ℕ → Type 0
Spells word bytes = (spellings : List ByteSpelling) × (word ≡ flat_map spelled_byte spellings) × (map meant_byte spellings ≡ map (λ byte. Some byte) bytes)
