-- The definitions, computed on worked examples.
use Rattle.std.proofs.Common.{◌≡◌, [], ◌∷◌, refl, Some, None}
use Rattle.pb_bytes.specs.BigEndian.{be32, number_of}
use Rattle.pb_bytes.specs.Reading.{groups_at, varint_at, field_at}
use Rattle.pb_bytes.specs.Varint.{groups, varint, field}

pub varint-0 : varint 0 ≡ 0 ∷ []
unfolding varint groups
varint-0 = refl

pub varint-127 : varint 127 ≡ 127 ∷ []
unfolding varint groups
varint-127 = refl

pub varint-300 : varint 300 ≡ 0xac ∷ 2 ∷ []
unfolding varint groups
varint-300 = refl

pub varint-65536 : varint 65536 ≡ 0x80 ∷ 0x80 ∷ 4 ∷ []
unfolding varint groups
varint-65536 = refl

pub varint-largest : varint 18446744073709551615 ≡ 255 ∷ 255 ∷ 255 ∷ 255 ∷ 255 ∷ 255 ∷ 255 ∷ 255 ∷ 255 ∷ 1 ∷ []
unfolding varint groups
varint-largest = refl

pub field-ab : field (97 ∷ 98 ∷ []) ≡ 2 ∷ 97 ∷ 98 ∷ []
unfolding field varint groups
field-ab = refl

-- a byte may follow what is read
pub varint_at-300 : varint_at (0xac ∷ 2 ∷ 7 ∷ []) ≡ Some (300, 2)
unfolding varint_at groups_at
varint_at-300 = refl

-- a last group of 0
pub varint_at-padded : varint_at (0x80 ∷ 0 ∷ []) ≡ None
unfolding varint_at groups_at
varint_at-padded = refl

-- ten groups of 2 ^ 64
pub varint_at-large : varint_at (128 ∷ 128 ∷ 128 ∷ 128 ∷ 128 ∷ 128 ∷ 128 ∷ 128 ∷ 128 ∷ 2 ∷ []) ≡ None
unfolding varint_at groups_at
varint_at-large = refl

pub field_at-ab : field_at (2 ∷ 97 ∷ 98 ∷ 7 ∷ []) ≡ Some (97 ∷ 98 ∷ [], 3)
unfolding field_at varint_at groups_at
field_at-ab = refl

-- a field longer than the bytes
pub field_at-short : field_at (2 ∷ 97 ∷ []) ≡ None
unfolding field_at varint_at groups_at
field_at-short = refl

pub be32-example : be32 0x010203ff ≡ 1 ∷ 2 ∷ 3 ∷ 255 ∷ []
unfolding be32
be32-example = refl

pub number_of-example : number_of (1 ∷ 2 ∷ 3 ∷ 255 ∷ []) ≡ 0x010203ff
unfolding number_of
number_of-example = refl
