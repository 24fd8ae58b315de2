-- What reading and writing keep from one group to the next.
use Rattle.std.proofs.Common.{◌≡◌, ℕ, suc, ◌+◌, ◌*◌, ◌-◌, ◌/◌, ◌%◌, ◌^◌, ◌<◌, ◌≤◌, ◌==◌, ◌&&◌, List, [], ◌∷◌, ◌++◌, length, take, drop, set, get_or, refl, sym, ap, ◌∙◌, arith, inl, inr, Option, Some, None, if◌then◌else◌, append_assoc, true, false}
use Rattle.std.specs.Prelude.{nat_lt}
use Rattle.std.proofs.lemmas.Bool.{cases_lt, cases_eq, ne_eqb, lt-ltb, le-ltb}
use Rattle.std.proofs.lemmas.Grind.{take-set_at}
use Rattle.std.proofs.lemmas.Nat.{div_below}
use Rattle.std.proofs.Math.Bool.{and-false}
use Rattle.std.proofs.Math.Nat.{mul-le-mul_right, pow-le-pow_right, pow-suc}
use Rattle.std.proofs.Math.Seq.{drop-cons}
use Rattle.std.proofs.lemmas.List.{drop_all}
use Rattle.pb_bytes.specs.Reading.{above, groups_at, if_below, varint_at}
use Rattle.pb_bytes.specs.Varint.{groups, varint}
use Rattle.pb_bytes.proofs.ReadingLemmas.{groups_at-last, groups_at-more, groups_at-none}
use Rattle.pb_bytes.proofs.VarintLemmas.{groups-last, groups-more}

-- ---- writing

-- behind a group there is room for the ones above it
pub room : (len rest : ℕ) → len ≤ 9 → 128 ≤ rest → rest < 2 * 128 ^ (9 - len) → (len < 9) × (rest / 128 < 2 * 128 ^ (9 - (len + 1)))
room len rest placed large left = elim (cases_lt len 9) [
  | inl before ↦
      let one_fewer : 9 - len ≡ suc (9 - (len + 1)) = omega arith in
      let fits : rest < 2 * (128 ^ (9 - (len + 1)) * 128) = rw (one_fewer, pow-suc 128 (9 - (len + 1))) at left in
      (before, div_below rest 128 (2 * 128 ^ (9 - (len + 1))) (omega arith) (omega arith))
  | inr last ↦
      let none_left : 9 - len ≡ 0 = omega arith in
      let small : rest < 2 * 1 = rw none_left at left in
      absurd (omega arith)
]

-- one group more is placed
pub placed_more : (len rest value : ℕ) (bytes : List ℕ) → len < 9 → 128 ≤ rest → length bytes ≡ 10
    → take len bytes ++ groups (10 - len) rest ≡ groups 10 value
    → take (len + 1) (set bytes len (128 + rest % 128)) ++ groups (10 - (len + 1)) (rest / 128) ≡ groups 10 value
placed_more len rest value bytes before large whole completed =
    let one_fewer : 10 - len ≡ suc (10 - (len + 1)) = omega arith in
    let placed = take-set_at bytes len (len + 1) (128 + rest % 128) refl (omega arith) in
    let split : groups (10 - len) rest ≡ (128 + rest % 128) ∷ groups (10 - (len + 1)) (rest / 128) = rw one_fewer (groups-more (10 - (len + 1)) rest large) in
    rw (placed, append_assoc) (rw split at completed)

-- the last group is placed
pub placed_last : (len rest value : ℕ) (bytes : List ℕ) → len ≤ 9 → rest < 128 → length bytes ≡ 10
    → take len bytes ++ groups (10 - len) rest ≡ groups 10 value
    → take (len + 1) (set bytes len rest) ≡ varint value
unfolding varint
placed_last len rest value bytes placed_before small whole completed =
    let one_fewer : 10 - len ≡ suc (9 - len) = omega arith in
    let placed = take-set_at bytes len (len + 1) rest refl (omega arith) in
    let split : groups (10 - len) rest ≡ rest ∷ [] = rw one_fewer (groups-last (9 - len) rest small) in
    rw placed (rw split at completed)

-- ---- reading

-- the groups read so far, which make `value` in so many places, with the others above them;
-- behind a first group the last one isn't 0
abbrev pub behind : ℕ → ℕ → ℕ → Option (ℕ × ℕ) → Option (ℕ × ℕ)
behind value scale place None = None
behind value scale place (Some others) =
    if nat_lt 0 place && (others.0 == 0) then None else Some (value + scale * others.0, place + others.1)

same_pair : (r s : ℕ × ℕ) → r.0 ≡ s.0 → r.1 ≡ s.1 → Some r ≡ Some s
same_pair r s first second = rw (first, second) refl

-- nothing is read at the start
pub behind-start : (others : Option (ℕ × ℕ)) → behind 0 1 0 others ≡ others
behind-start None = refl
behind-start (Some others) = same_pair (0 + 1 * others.0, 0 + others.1) others (omega arith) (omega arith)

-- one group more
pub behind-above : (value scale place low : ℕ) (others : Option (ℕ × ℕ))
    → behind value scale place (above low others) ≡ behind (value + low * scale) (scale * 128) (place + 1) others
behind-above value scale place low None = refl
behind-above value scale place low (Some others) = elim (cases_eq others.0 0) [
  | inl none ↦
      let later : nat_lt 0 (place + 1) ≡ true = lt-ltb 0 (place + 1) (omega arith) in
      rw (none, later) refl
  | inr some ↦
      let larger : low + 128 * others.0 ≡ 0 → ⊥ = (λ e. absurd (omega arith)) in
      rw (ne_eqb others.0 0 some, ne_eqb (low + 128 * others.0) 0 larger, and-false, and-false)
      (same_pair (value + scale * (low + 128 * others.0), place + (others.1 + 1)) (value + low * scale + scale * 128 * others.0, place + 1 + others.1) (omega arith) (omega arith))
]

-- so many groups were read, which make `value`; `left` says what reading all is by what is left
pub record Reads (from : List ℕ) (value scale place : ℕ) : Type 0 where
  pub scaled : scale ≡ 128 ^ place
  pub below : value < scale
  pub left : groups_at 10 from ≡ behind value scale place (groups_at (10 - place) (drop place from))

pub reads_none : (from : List ℕ) → Reads from 0 1 0
reads_none from = record {
  scaled = refl;
  below = omega arith;
  left = sym (behind-start (groups_at 10 from));
}

-- the next group
next_group : (from : List ℕ) (place byte : ℕ) → place < 10 → place < length from → byte ≡ get_or from place 0
    → groups_at (10 - place) (drop place from) ≡ groups_at (suc (9 - place)) (byte ∷ drop (suc place) from)
next_group from place byte early within is_byte =
    let count : 10 - place ≡ suc (9 - place) = omega arith in
    rw (count, drop-cons from place 0, is_byte) refl

pub reads_more : (from : List ℕ) (value scale place byte : ℕ) → Reads from value scale place → place < 9 → place < length from
    → byte ≡ get_or from place 0 → 128 ≤ byte → byte < 256 → Reads from (value + (byte - 128) * scale) (scale * 128) (place + 1)
reads_more from value scale place byte reads early within is_byte large fits =
    let top : (byte - 128) * scale ≤ 127 * scale = mul-le-mul_right scale (omega arith) in
    let before = reads.below in
    let group = next_group from place byte (omega arith) within is_byte in
    let first = groups_at-more (9 - place) byte (drop (suc place) from) large fits in
    let same_place : place + 1 ≡ suc place = omega arith in
    let same_count : 10 - suc place ≡ 9 - place = omega arith in
    record {
      scaled = rw (same_place, pow-suc 128 place) (ap (λ (s : ℕ). s * 128) reads.scaled);
      below = omega arith;
      left = reads.left ∙ rw (group, first, behind-above value scale place (byte - 128), same_place, same_count) refl;
    }

-- the scale of one of the first nine groups
pub scale_fits : (scale place : ℕ) → scale ≡ 128 ^ place → place < 9 → scale ≤ 2 ^ 56
scale_fits scale place scaled early =
    let power : 128 ^ place ≤ 128 ^ 8 = pow-le-pow_right {n = 128} (omega arith) {i = place} {j = 8} (omega arith) in
    omega arith

pub group_fits : (group scale : ℕ) → group < 128 → group * scale ≤ 127 * scale
group_fits group scale small = mul-le-mul_right scale (omega arith)

-- ---- where reading stops

pub stops_short : (from : List ℕ) (value scale place : ℕ) → Reads from value scale place → length from ≤ place → varint_at from ≡ None
unfolding varint_at
stops_short from value scale place reads short =
    rw (reads.left, drop_all place from short, groups_at-none (10 - place)) refl

pub stops_at_zero : (from : List ℕ) (value scale place : ℕ) → Reads from value scale place → place < 10 → place < length from
    → get_or from place 0 ≡ 0 → 0 < place → varint_at from ≡ None
unfolding varint_at
stops_at_zero from value scale place reads early within is_zero later =
    let group = next_group from place 0 early within (sym is_zero) in
    let first = groups_at-last (9 - place) 0 (drop (suc place) from) (omega arith) in
    rw (reads.left, group, first, lt-ltb 0 place later) refl

no_eleventh : (from : List ℕ) (value scale byte : ℕ) → Reads from value scale 9 → 9 < length from
    → byte ≡ get_or from 9 0 → 128 ≤ byte → byte < 256 → varint_at from ≡ None
unfolding varint_at groups_at
no_eleventh from value scale byte reads within is_byte large fits =
    let next = next_group from 9 byte (omega arith) within is_byte in
    let more = groups_at-more 0 byte (drop 10 from) large fits in
    rw (reads.left, next, more) refl

-- a group that may be the last
not_padded : (place group : ℕ) → (0 < place → 0 < group) → (nat_lt 0 place && (group == 0)) ≡ false
not_padded place group later = elim (cases_lt 0 place) [
  | inl behind_others ↦
      let pos : 0 < group = later behind_others in
      let not_zero : group ≡ 0 → ⊥ = (λ e. absurd (omega arith)) in
      rw (ne_eqb group 0 not_zero) (and-false (nat_lt 0 place))
  | inr first ↦ rw (le-ltb 0 place first) refl
]

at_last : (from : List ℕ) (value scale place group : ℕ) → Reads from value scale place → place < 10 → place < length from
    → group ≡ get_or from place 0 → group < 128 → (0 < place → 0 < group)
    → varint_at from ≡ if_below (2 ^ 64) (value + scale * group, place + 1)
unfolding varint_at
at_last from value scale place group reads early within is_group small later =
    let next = next_group from place group early within is_group in
    let last = groups_at-last (9 - place) group (drop (suc place) from) small in
    rw (reads.left, next, last, not_padded place group later) refl

pub stops_at_last : (from : List ℕ) (value scale place group : ℕ) → Reads from value scale place → place < 10 → place < length from
    → group ≡ get_or from place 0 → group < 128 → (0 < place → 0 < group) → value + group * scale < 2 ^ 64
    → Some (value + group * scale, place + 1) ≡ varint_at from
stops_at_last from value scale place group reads early within is_group small later fits =
    let all = at_last from value scale place group reads early within is_group small later in
    let turned : value + scale * group ≡ value + group * scale = omega arith in
    rw (all, turned, lt-ltb (value + group * scale) (2 ^ 64) fits) refl

-- behind nine groups, which have 63 bits, only a 1 may stand
pub stops_past_64_bits : (from : List ℕ) (value scale byte : ℕ) → Reads from value scale 9 → 9 < length from
    → byte ≡ get_or from 9 0 → byte < 256 → (byte ≡ 1 → ⊥) → varint_at from ≡ None
stops_past_64_bits from value scale byte reads within is_byte fits not_one = elim (cases_lt byte 128) [
  | inl small ↦ elim (cases_eq byte 0) [
    | inl zero_byte ↦ stops_at_zero from value scale 9 reads (omega arith) within (sym is_byte ∙ zero_byte) (omega arith)
    | inr some ↦
        let all = at_last from value scale 9 byte reads (omega arith) within is_byte small (λ _. omega arith) in
        let bits : scale ≡ 2 ^ 63 = reads.scaled in
        let larger : 2 ^ 64 ≤ value + scale * byte = rw bits (omega arith) in
        rw (all, le-ltb (value + scale * byte) (2 ^ 64) larger) refl
  ]
  | inr large ↦ no_eleventh from value scale byte reads within is_byte large fits
]

pub stops_at_64_bits : (from : List ℕ) (value scale byte : ℕ) → Reads from value scale 9 → 9 < length from
    → byte ≡ get_or from 9 0 → byte ≡ 1 → Some (value + scale, 10) ≡ varint_at from
stops_at_64_bits from value scale byte reads within is_byte one =
    let bits : scale ≡ 2 ^ 63 = reads.scaled in
    let small = reads.below in
    let turned : value + 1 * scale ≡ value + scale = omega arith in
    rw turned at (stops_at_last from value scale 9 1 reads (omega arith) within (sym one ∙ is_byte) (omega arith) (λ _. omega arith) (omega arith))
