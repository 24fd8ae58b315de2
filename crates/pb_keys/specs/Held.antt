-- The bytes of a value of Bytes, wherever they stand.
use Rattle.std.specs.Prelude.{ℕ, ◌≤◌, List, take}
use Rattle.pb_keys.specs.declared.bytes.Held.{Held}
use Rattle.pb_keys.specs.declared.bytes.Held.TheVariants.{Here, Apart}

abbrev pub held_bytes : Held → List ℕ
held_bytes (Here len bytes) = take len bytes
held_bytes (Apart bytes) = bytes.value.items

-- no more of them than there is room
abbrev pub IsHeld : Held → Type 0
IsHeld (Here len bytes) = len ≤ 14
IsHeld (Apart bytes) = Unit {0}
