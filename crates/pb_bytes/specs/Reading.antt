-- The number or the field that begins bytes, with the length of its spelling or with the bytes behind it.
use Rattle.std.specs.Prelude.{ℕ, zero, suc, ◌+◌, ◌*◌, ◌-◌, ◌^◌, ◌==◌, List, [], ◌∷◌, length, take, drop, nat_lt, nat_le, if◌then◌else◌, Option, Some, None, option_map, option_and_then}

infixl 10 ◌>>=◌
abbrev pub ◌>>=◌ : {A B : Type 0} → Option A → (A → Option B) → Option B
(Some x) >>= f = f x
None >>= f = None

-- with a lower group below it; a last group of 0 would be a longer spelling
abbrev pub above : ℕ → Option (ℕ × ℕ) → Option (ℕ × ℕ)
above low None = None
above low (Some high) = if high.0 == 0 then None else Some (low + 128 * high.0, high.1 + 1)

-- at most so many groups
unfoldable pub groups_at : ℕ → List ℕ → Option (ℕ × ℕ)
groups_at zero bytes = None
groups_at (suc more) [] = None
groups_at (suc more) (byte ∷ rest) =
    if nat_lt byte 128 then Some (byte, 1)
    else if nat_lt byte 256 then above (byte - 128) (groups_at more rest)
    else None

abbrev pub if_below : ℕ → ℕ × ℕ → Option (ℕ × ℕ)
if_below limit read = if nat_lt read.0 limit then Some read else None

unfoldable pub varint_at : List ℕ → Option (ℕ × ℕ)
varint_at bytes = option_and_then (if_below (2 ^ 64)) (groups_at 10 bytes)

abbrev pub if_within : List ℕ → ℕ × ℕ → Option (List ℕ × ℕ)
if_within bytes read =
    if nat_le (read.1 + read.0) (length bytes) then Some (take read.0 (drop read.1 bytes), read.1 + read.0)
    else None

unfoldable pub field_at : List ℕ → Option (List ℕ × ℕ)
field_at bytes = option_and_then (if_within bytes) (varint_at bytes)

-- ---- what is read, and the bytes behind it

abbrev pub behind : {A : Type 0} → List ℕ → A × ℕ → A × List ℕ
behind bytes read = (read.0, drop read.1 bytes)

abbrev pub varint_split : List ℕ → Option (ℕ × List ℕ)
varint_split bytes = option_map (behind bytes) (varint_at bytes)

abbrev pub field_split : List ℕ → Option (List ℕ × List ℕ)
field_split bytes = option_map (behind bytes) (field_at bytes)

-- of a number below 2 ^ 62
abbrev pub number_split : List ℕ → Option (ℕ × List ℕ)
number_split bytes = option_map (behind bytes) (option_and_then (if_below (2 ^ 62)) (varint_at bytes))
