-- What the payloads of the current pointer say: which manifest and which catalogue hold.
use Rattle.std.specs.Prelude.{◌≡◌, ℕ, ◌<◌, ◌^◌, List, ◌++◌, Some, None}
use Rattle.std.specs.List.{last_or}
use Rattle.pb_bytes.specs.Varint.{varint}

-- the numbers of the two files
pub record Pointer : Type 0 where
  pub manifest : ℕ
  pub catalogue : ℕ

abbrev pub pointer_to : ℕ → ℕ → Pointer
pointer_to manifest catalogue = record { manifest = manifest; catalogue = catalogue }

abbrev pub pointer_spelling : Pointer → List ℕ
pointer_spelling pointer = varint pointer.manifest ++ varint pointer.catalogue

-- the grammar of a payload
pub record IsPointer (pointer : Pointer) : Type 0 where
  pub manifest : pointer.manifest < 2 ^ 62
  pub catalogue : pointer.catalogue < 2 ^ 62

-- the last payload holds, and the others aren't judged
pub record SaysCurrent (payloads : List (List ℕ)) (pointer : Pointer) : Type 0 where
  pub last : last_or None payloads ≡ Some (pointer_spelling pointer)
  pub in_form : IsPointer pointer
