-- Reading gives the number or the field whose spelling begins the bytes, and nothing exactly where none does.
use Rattle.std.proofs.Common.{◌≡◌, ℕ, zero, suc, ◌+◌, ◌*◌, ◌-◌, ◌/◌, ◌%◌, ◌^◌, ◌<◌, ◌≤◌, List, [], ◌∷◌, ◌++◌, length, take, drop, refl, sym, ap, ◌∙◌, arith, inl, inr, Option, Some, None, length-append, append_assoc, length-take, length-drop}
use Rattle.std.specs.Prelude.{true, nat_lt, nat_le, IfNone, IfSome}
use Rattle.std.proofs.lemmas.Bool.{cases_lt, lt-ltb, le-ltb, ltb-true, leb-true, le-leb, lt-leb, cases_eq, ne_eqb}
use Rattle.std.proofs.lemmas.List.{take_all, take_at, drop_at, take-append-drop}
use Rattle.std.proofs.lemmas.Nat.{div_below}
use Rattle.std.proofs.lemmas.Option.{cond_some, option_and_then_some}
use Rattle.std.proofs.Math.Nat.{one-le-pow, pow-suc}
use Rattle.std.proofs.Math.Seq.{take-add}
use Rattle.pb_bytes.specs.Reading.{above, groups_at, if_below, varint_at, if_within, field_at}
use Rattle.pb_bytes.specs.Varint.{groups, varint, field}
use Rattle.pb_bytes.proofs.VarintLemmas.{groups-last, groups-more, field-parts, length-field}

-- these bytes begin with that spelling, and it has so many bytes
pub record Begins (bytes spelling : List ℕ) (used : ℕ) : Type 0 where
  pub within : used ≤ length bytes
  pub spelled : take used bytes ≡ spelling

-- two reads that are the same have the same value and the same length
same_read : {X : Type 0} (r s : X × ℕ) → Some r ≡ Some s → (r.0 ≡ s.0) × (r.1 ≡ s.1)
same_read {X = X} r s e =
    let same : r ≡ s = cc in
    (ap (λ (x : X × ℕ). x.0) same, ap (λ (x : X × ℕ). x.1) same)

-- ---- one group

pub groups_at-last : (more byte : ℕ) (rest : List ℕ) → byte < 128 → groups_at (suc more) (byte ∷ rest) ≡ Some (byte, 1)
unfolding groups_at
groups_at-last more byte rest small = rw (lt-ltb byte 128 small) refl

pub groups_at-more : (more byte : ℕ) (rest : List ℕ) → 128 ≤ byte → byte < 256
    → groups_at (suc more) (byte ∷ rest) ≡ above (byte - 128) (groups_at more rest)
unfolding groups_at
groups_at-more more byte rest large fits = rw (le-ltb byte 128 large, lt-ltb byte 256 fits) refl

groups_at-off : (more byte : ℕ) (rest : List ℕ) → 256 ≤ byte → groups_at (suc more) (byte ∷ rest) ≡ None
unfolding groups_at
groups_at-off more byte rest off =
    let large : 128 ≤ byte = omega arith in
    rw (le-ltb byte 128 large, le-ltb byte 256 off) refl

pub groups_at-none : (more : ℕ) → groups_at more [] ≡ None
unfolding groups_at
groups_at-none zero = refl
groups_at-none (suc more) = refl

above-some : (low high used : ℕ) → 0 < high → above low (Some (high, used)) ≡ Some (low + 128 * high, used + 1)
above-some low high used pos =
    let not_zero : high ≡ 0 → ⊥ = (λ zero_high. absurd (omega arith)) in
    rw (ne_eqb high 0 not_zero) refl

-- what is above a low group, where something is
record IsAbove (low : ℕ) (groups : Option (ℕ × ℕ)) (value used : ℕ) : Type 0 where
  high : ℕ
  others : ℕ
  read : groups ≡ Some (high, others)
  pos : 0 < high
  joined : value ≡ low + 128 * high
  longer : used ≡ suc others

above-parts : (low : ℕ) (groups : Option (ℕ × ℕ)) (value used : ℕ) → above low groups ≡ Some (value, used) → IsAbove low groups value used
above-parts low None value used e = absurd (cc)
above-parts low (Some high) value used e = elim (cases_eq high.0 0) [
  | inl none ↦
      let off : above low (Some high) ≡ None = rw none refl in
      absurd (cc)
  | inr some ↦
      let pos : 0 < high.0 = omega arith in
      let read = same_read (low + 128 * high.0, high.1 + 1) (value, used) (sym (above-some low high.0 high.1 pos) ∙ e) in
      record { high = high.0; others = high.1; read = refl; pos = pos; joined = sym read.0; longer = omega (arith, read.1) }
]

-- ---- what is spelled is read, whatever follows it

pub groups_at-groups : (more value : ℕ) (rest : List ℕ) → value < 128 ^ suc more
    → groups_at (suc more) (groups (suc more) value ++ rest) ≡ Some (value, length (groups (suc more) value))
groups_at-groups zero value rest fits = rw (groups-last zero value fits) (groups_at-last zero value rest fits)
groups_at-groups (suc more) value rest fits = elim (cases_lt value 128) [
  | inl small ↦ rw (groups-last (suc more) value small) (groups_at-last (suc more) value rest small)
  | inr large ↦
      let high_fits : value / 128 < 128 ^ suc more = div_below value 128 (128 ^ suc more) (omega arith) (rw (pow-suc 128 (suc more)) at fits) in
      let higher = groups_at-groups more (value / 128) rest high_fits in
      let first = groups_at-more (suc more) (128 + value % 128) (groups (suc more) (value / 128) ++ rest) (omega arith) (omega arith) in
      let low : 128 + value % 128 - 128 ≡ value % 128 = omega arith in
      let pos : 0 < value / 128 = omega arith in
      let whole : value % 128 + 128 * (value / 128) ≡ value = omega arith in
      let longer : length (groups (suc more) (value / 128)) + 1 ≡ suc (length (groups (suc more) (value / 128))) = omega arith in
      rw (groups-more (suc more) value large, first, higher, low, above-some (value % 128) (value / 128) (length (groups (suc more) (value / 128))) pos, whole, longer) refl
]

-- ---- what is read is spelled so

-- the number is below its limit, and its groups begin the bytes
pub record GroupsBegin (more : ℕ) (bytes : List ℕ) (value used : ℕ) : Type 0 where
  pub begins : Begins bytes (groups more value) used
  pub below : value < 128 ^ more

pub groups_at-some : (more : ℕ) (bytes : List ℕ) (value used : ℕ) → groups_at more bytes ≡ Some (value, used) → GroupsBegin more bytes value used
unfolding groups_at
groups_at-some zero bytes value used e = absurd (cc)
groups_at-some (suc more) [] value used e = absurd (cc)
groups_at-some (suc more) (byte ∷ rest) value used e = elim (cases_lt byte 128) [
  | inl small ↦
      let read = same_read (byte, 1) (value, used) (sym (groups_at-last more byte rest small) ∙ e) in
      let is_value : byte ≡ value = read.0 in
      let is_used : 1 ≡ used = read.1 in
      let power = one-le-pow more 128 (omega arith) in
      let below : value < 128 ^ suc more = rw (pow-suc 128 more) (omega arith) in
      let spelled : take 1 (byte ∷ rest) ≡ groups (suc more) byte = rw (groups-last more byte small) refl in
      record {
        begins = record { within = omega arith; spelled = rw (← is_used, ← is_value) spelled };
        below = below;
      }
  | inr large ↦ elim (cases_lt byte 256) [
    | inl fits ↦
        let up = above-parts (byte - 128) (groups_at more rest) value used (sym (groups_at-more more byte rest large fits) ∙ e) in
        let higher = groups_at-some more rest up.high up.others up.read in
        let power = higher.below in
        let is_high : value / 128 ≡ up.high = omega arith in
        let is_low : 128 + value % 128 ≡ byte = omega arith in
        let is_large : 128 ≤ value = omega arith in
        let front : take (suc up.others) (byte ∷ rest) ≡ byte ∷ take up.others rest = refl in
        record {
          begins = record {
            within = omega (arith, higher.begins.within, up.longer);
            spelled = rw (up.longer, groups-more more value is_large, is_high, is_low) (ap (λ (tail : List ℕ). byte ∷ tail) higher.begins.spelled);
          };
          below = rw (pow-suc 128 more) (omega arith);
        }
    | inr off ↦
        let read : ◌≡◌ {A = Option (ℕ × ℕ)} None (Some (value, used)) = sym (groups_at-off more byte rest off) ∙ e in
        absurd (cc)
  ]
]

-- ---- varints

pub varint_at-varint : (value : ℕ) (rest : List ℕ) → value < 2 ^ 64 → varint_at (varint value ++ rest) ≡ Some (value, length (varint value))
unfolding varint_at varint
varint_at-varint value rest fits =
    let below : value < 128 ^ 10 = omega arith in
    rw (groups_at-groups 9 value rest below, lt-ltb value (2 ^ 64) fits) refl

-- the number has 64 bits, and its varint begins the bytes
pub record VarintBegins (bytes : List ℕ) (value used : ℕ) : Type 0 where
  pub begins : Begins bytes (varint value) used
  pub below : value < 2 ^ 64

pub varint_at-some : (bytes : List ℕ) (value used : ℕ) → varint_at bytes ≡ Some (value, used) → VarintBegins bytes value used
unfolding varint_at varint
varint_at-some bytes value used e =
    option_and_then_some (if_below (2 ^ 64)) (groups_at 10 bytes) (value, used) e (λ read found kept.
    let parts = cond_some (nat_lt read.0 (2 ^ 64)) read (value, used) kept in
    let groups_begin = groups_at-some 10 bytes value used (found ∙ ap Some parts.1) in
    let small = ltb-true read.0 (2 ^ 64) parts.0 in
    record { begins = groups_begin.begins; below = omega (arith, ap (λ (r : ℕ × ℕ). r.0) parts.1) })

-- bytes that begin with a spelling are that spelling and the rest
pub Begins-rest : (bytes spelling : List ℕ) (used : ℕ) → Begins bytes spelling used → bytes ≡ spelling ++ drop used bytes
Begins-rest bytes spelling used begins = sym (take-append-drop used bytes) ∙ ap (λ (front : List ℕ). front ++ drop used bytes) begins.spelled

pub varint_at-none : (bytes : List ℕ) → varint_at bytes ≡ None → (value : ℕ) (rest : List ℕ) → value < 2 ^ 64 → bytes ≡ varint value ++ rest → ⊥
varint_at-none bytes none value rest fits spelled =
    let read = varint_at-varint value rest fits in
    let same = ap varint_at spelled in
    cc

-- the same of what a reader answers
pub varint_at-within : (bytes : List ℕ) (read : Option (ℕ × ℕ)) → read ≡ varint_at bytes → IfSome read (λ found. found.1 ≤ length bytes)
varint_at-within bytes None is_read = tt
varint_at-within bytes (Some found) is_read = (varint_at-some bytes found.0 found.1 (sym is_read)).begins.within

pub varint_at-spelled : (bytes : List ℕ) (read : Option (ℕ × ℕ)) → read ≡ varint_at bytes → IfSome read (λ found. take found.1 bytes ≡ varint found.0)
varint_at-spelled bytes None is_read = tt
varint_at-spelled bytes (Some found) is_read = (varint_at-some bytes found.0 found.1 (sym is_read)).begins.spelled

pub varint_at-unspelled : (bytes : List ℕ) (read : Option (ℕ × ℕ)) → read ≡ varint_at bytes
    → IfNone read ((value : ℕ) (rest : List ℕ) → value < 2 ^ 64 → bytes ≡ varint value ++ rest → ⊥)
varint_at-unspelled bytes None is_read = varint_at-none bytes (sym is_read)
varint_at-unspelled bytes (Some found) is_read = tt

-- no varint begins another
pub one_varint : (m n : ℕ) (x y : List ℕ) → m < 2 ^ 64 → n < 2 ^ 64 → varint m ++ x ≡ varint n ++ y → (m ≡ n) × (x ≡ y)
one_varint m n x y m_fits n_fits same =
    let read_m = varint_at-varint m x m_fits in
    let read_n = varint_at-varint n y n_fits in
    let read = sym read_m ∙ ap varint_at same ∙ read_n in
    let number : m ≡ n = (same_read (m, length (varint m)) (n, length (varint n)) read).0 in
    let moved : varint n ++ x ≡ varint n ++ y = rw number at same in
    (number, sym (drop_at (varint n) x (length (varint n)) refl) ∙ ap (drop (length (varint n))) moved ∙ drop_at (varint n) y (length (varint n)) refl)

-- ---- fields

pub field_at-field : (bytes rest : List ℕ) → length bytes < 2 ^ 64 → field_at (field bytes ++ rest) ≡ Some (bytes, length (field bytes))
unfolding field_at
field_at-field bytes rest fits =
    let regrouped : field bytes ++ rest ≡ varint (length bytes) ++ (bytes ++ rest) = rw (field-parts bytes, append_assoc) refl in
    let read = varint_at-varint (length bytes) (bytes ++ rest) fits in
    let within : nat_le (length (varint (length bytes)) + length bytes) (length (varint (length bytes) ++ (bytes ++ rest))) ≡ true =
    le-leb _ _ (rw (length-append, length-append) (omega arith)) in
    let behind = drop_at (varint (length bytes)) (bytes ++ rest) (length (varint (length bytes))) refl in
    let content = take_at bytes rest (length bytes) refl in
    rw (regrouped, read, within, behind, content, length-field bytes) refl

-- without a length there is no field; with one it depends on the bytes behind it
pub field_at-off : (bytes : List ℕ) → None ≡ varint_at bytes → field_at bytes ≡ None
unfolding field_at
field_at-off bytes off = rw (← off) refl

pub field_at-len : (bytes : List ℕ) (len used : ℕ) → Some (len, used) ≡ varint_at bytes → field_at bytes ≡ if_within bytes (len, used)
unfolding field_at
field_at-len bytes len used read = rw (← read) refl

pub field_at-short : (bytes : List ℕ) (len used : ℕ) → Some (len, used) ≡ varint_at bytes → length bytes < used + len → field_at bytes ≡ None
field_at-short bytes len used read short = field_at-len bytes len used read ∙ rw (lt-leb (used + len) (length bytes) short) refl

pub field_at-whole : (bytes : List ℕ) (len used : ℕ) → Some (len, used) ≡ varint_at bytes → used + len ≤ length bytes
    → field_at bytes ≡ Some (take len (drop used bytes), used + len)
field_at-whole bytes len used read enough = field_at-len bytes len used read ∙ rw (le-leb (used + len) (length bytes) enough) refl

-- what is left behind the length, as a range of the bytes has it
pub rest_of : (used : ℕ) (bytes : List ℕ) → take (length bytes - used) (drop used bytes) ≡ drop used bytes
rest_of used bytes = take_all _ _ (simp length-drop (omega arith))

-- a length, and that many bytes
field_from : (bytes content : List ℕ) (used : ℕ) (read : ℕ × ℕ) → Begins bytes (varint read.0) read.1 → read.1 + read.0 ≤ length bytes
    → take read.0 (drop read.1 bytes) ≡ content → read.1 + read.0 ≡ used → Begins bytes (field content) used
field_from bytes content used read begins enough is_content is_used =
    let len : length content ≡ read.0 = ap length (sym is_content) ∙ simp (length-take, length-drop) (omega arith) in
    record {
      within = omega arith;
      spelled = rw (← is_used, take-add read.1 read.0 bytes, begins.spelled, is_content, field-parts content, len) refl;
    }

-- the field of these bytes begins the bytes
pub field_at-some : (bytes content : List ℕ) (used : ℕ) → field_at bytes ≡ Some (content, used) → Begins bytes (field content) used
unfolding field_at
field_at-some bytes content used e =
    option_and_then_some (if_within bytes) (varint_at bytes) (content, used) e (λ read found kept.
    let parts = cond_some (nat_le (read.1 + read.0) (length bytes)) (take read.0 (drop read.1 bytes), read.1 + read.0) (content, used) kept in
    field_from bytes content used read (varint_at-some bytes read.0 read.1 found).begins
    (leb-true (read.1 + read.0) (length bytes) parts.0) (ap (λ (x : List ℕ × ℕ). x.0) parts.1) (ap (λ (x : List ℕ × ℕ). x.1) parts.1))

pub field_at-none : (bytes : List ℕ) → length bytes < 2 ^ 64 → field_at bytes ≡ None → (content rest : List ℕ) → bytes ≡ field content ++ rest → ⊥
field_at-none bytes short none content rest spelled =
    let whole : length bytes ≡ length (varint (length content)) + length content + length rest = ap length spelled ∙ rw (length-append, length-field content) refl in
    let read = field_at-field content rest (omega arith) in
    let same = ap field_at spelled in
    cc

-- no field begins another
pub one_field : (a b x y : List ℕ) → length a < 2 ^ 64 → length b < 2 ^ 64 → field a ++ x ≡ field b ++ y → (a ≡ b) × (x ≡ y)
one_field a b x y a_fits b_fits same =
    let read_a = field_at-field a x a_fits in
    let read_b = field_at-field b y b_fits in
    let read = sym read_a ∙ ap field_at same ∙ read_b in
    let content : a ≡ b = (same_read (a, length (field a)) (b, length (field b)) read).0 in
    let moved : field b ++ x ≡ field b ++ y = rw content at same in
    (content, sym (drop_at (field b) x (length (field b)) refl) ∙ ap (drop (length (field b))) moved ∙ drop_at (field b) y (length (field b)) refl)
