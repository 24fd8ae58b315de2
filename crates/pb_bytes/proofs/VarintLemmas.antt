-- The spelling of numbers and fields: its groups, its length and its bytes.
use Rattle.std.proofs.Common.{◌≡◌, ℕ, zero, suc, ◌+◌, ◌/◌, ◌%◌, ◌<◌, ◌≤◌, List, [], ◌∷◌, ◌++◌, length, refl, arith, inl, inr, length-append}
use Rattle.std.proofs.lemmas.Bool.{cases_lt, lt-ltb, le-ltb}
use Rattle.std.proofs.lemmas.Nat.{mod_below}
use Rattle.pb_bytes.specs.BigEndian.{AreBytes}
use Rattle.pb_bytes.specs.Varint.{groups, varint, field}

-- a number that is a last group
pub groups-last : (more value : ℕ) → value < 128 → groups (suc more) value ≡ value ∷ []
unfolding groups
groups-last more value small = rw (lt-ltb value 128 small) refl

-- a number with groups above its lowest
pub groups-more : (more value : ℕ) → 128 ≤ value → groups (suc more) value ≡ (128 + value % 128) ∷ groups more (value / 128)
unfolding groups
groups-more more value large = rw (le-ltb value 128 large) refl

-- at most so many groups
pub length-groups : (more value : ℕ) → length (groups more value) ≤ more
unfolding groups
length-groups zero value = omega arith
length-groups (suc more) value = elim (cases_lt value 128) [
  | inl small ↦ rw (groups-last more value small) (omega arith)
  | inr large ↦
      let rest = length-groups more (value / 128) in
      rw (groups-more more value large) (omega arith)
]

-- and at least one
pub length-groups_pos : (more value : ℕ) → 0 < length (groups (suc more) value)
length-groups_pos more value = elim (cases_lt value 128) [
  | inl small ↦ rw (groups-last more value small) (omega arith)
  | inr large ↦ rw (groups-more more value large) (omega arith)
]

-- bytes in front of bytes
pub AreBytes-front : (byte : ℕ) (rest : List ℕ) → byte < 256 → AreBytes rest → AreBytes (byte ∷ rest)
AreBytes-front byte rest small bytes zero = small
AreBytes-front byte rest small bytes (suc place) = bytes place

AreBytes-groups : (more value : ℕ) → AreBytes (groups more value)
unfolding groups
AreBytes-groups zero value place = omega arith
AreBytes-groups (suc more) value place = elim (cases_lt value 128) [
  | inl small ↦ rw (groups-last more value small) (AreBytes-front value [] (omega arith) (λ place. omega arith) place)
  | inr large ↦
      let low : value % 128 < 128 = mod_below value 128 (omega arith) in
      rw (groups-more more value large) (AreBytes-front (128 + value % 128) (groups more (value / 128)) (omega arith) (AreBytes-groups more (value / 128)) place)
]

-- a varint has one to ten bytes
pub length-varint : (value : ℕ) → length (varint value) ≤ 10
unfolding varint
length-varint value = length-groups 10 value

pub length-varint_pos : (value : ℕ) → 0 < length (varint value)
unfolding varint
length-varint_pos value = length-groups_pos 9 value

pub AreBytes-varint : (value : ℕ) → AreBytes (varint value)
unfolding varint
AreBytes-varint value = AreBytes-groups 10 value

-- a number below 128 is one byte, itself
pub varint-small : (value : ℕ) → value < 128 → varint value ≡ value ∷ []
unfolding varint
varint-small value small = groups-last 9 value small

-- a field is its length and its bytes
pub field-parts : (bytes : List ℕ) → field bytes ≡ varint (length bytes) ++ bytes
unfolding field
field-parts bytes = refl

pub length-field : (bytes : List ℕ) → length (field bytes) ≡ length (varint (length bytes)) + length bytes
length-field bytes = rw (field-parts bytes, length-append) refl

pub AreBytes-append : (xs ys : List ℕ) → AreBytes xs → AreBytes ys → AreBytes (xs ++ ys)
AreBytes-append [] ys front back place = back place
AreBytes-append (x ∷ xs) ys front back place =
    AreBytes-front x (xs ++ ys) (front zero) (AreBytes-append xs ys (λ p. front (suc p)) back) place

pub AreBytes-field : (bytes : List ℕ) → AreBytes bytes → AreBytes (field bytes)
AreBytes-field bytes small =
    rw (field-parts bytes) (AreBytes-append (varint (length bytes)) bytes (AreBytes-varint (length bytes)) small)
