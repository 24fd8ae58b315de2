-- No span's and no row's spelling begins another's.
use Rattle.std.proofs.Common.{◌≡◌, ℕ, ◌-◌, ◌<◌, ◌≤◌, ◌^◌, List, [], ◌∷◌, ◌++◌, length, take, drop, get_or, refl, sym, ap, ◌∙◌, subst, arith, append_assoc, Option, Some, None}
use Rattle.std.specs.Prelude.{IfSome, IfNone}
use Rattle.std.proofs.lemmas.List.{take_rest}
use Rattle.pb_bytes.specs.Varint.{field}
use Rattle.pb_bytes.proofs.ReadingLemmas.{one_field}
use Rattle.pb_keys.specs.Span.{KeySpan, IsSpan, span_of}
use Rattle.pb_rows.specs.Layer.{KeyRow}
use Rattle.pb_table.specs.Spelling.{span_spelling, value_spelling, row_spelling}
use Rattle.pb_table.specs.Spells.{IsTableRow}
use Rattle.pb_table.proofs.CountedLemmas.{OneStart}

-- the field that was read is that of the spelling, and what is left is the spelling's rest
pub behind_field : (from content left : List ℕ) → from ≡ field content ++ left → length content < 2 ^ 64
    → (bytes more behind : List ℕ) → length bytes < 2 ^ 64 → from ≡ (field bytes ++ more) ++ behind → (content ≡ bytes) × (left ≡ more ++ behind)
behind_field from content left read fits bytes more behind bytes_fit spelled =
    one_field content bytes left (more ++ behind) fits bytes_fit (sym read ∙ spelled ∙ append_assoc (field bytes) more behind)

pub one_span : OneStart span_spelling IsSpan
one_span a b x y is_a is_b same =
    let a_lo : length a.lo ≤ 1025 = is_a.lo.within in
    let a_hi : length a.hi ≤ 1025 = is_a.hi.within in
    let b_lo : length b.lo ≤ 1025 = is_b.lo.within in
    let b_hi : length b.hi ≤ 1025 = is_b.hi.within in
    let first = behind_field (span_spelling a ++ x) a.lo (field a.hi ++ x) (append_assoc (field a.lo) (field a.hi) x) (omega arith) b.lo (field b.hi) y (omega arith) same in
    let second = one_field a.hi b.hi x y (omega arith) (omega arith) first.1 in
    ((λ i. span_of (first.0 i) (second.0 i)), second.1)

abbrev pub IsShortValue : Option (List ℕ) → Type 0
IsShortValue value = IfSome value (λ bytes. length bytes ≤ 65536)

mark_differs : (x y : List ℕ) → 0 ∷ x ≡ 1 ∷ y → ⊥
mark_differs x y same =
    let marks : ◌≡◌ {A = ℕ} 0 1 = cc in
    omega arith

one_value : OneStart value_spelling IsShortValue
one_value None None x y is_a is_b same = (refl, cc)
one_value None (Some b) x y is_a is_b same = absurd (mark_differs x (field b ++ y) same)
one_value (Some a) None x y is_a is_b same = absurd (mark_differs y (field a ++ x) (sym same))
one_value (Some a) (Some b) x y is_a is_b same =
    let fields : field a ++ x ≡ field b ++ y = cc in
    let values = one_field a b x y (omega (arith, is_a)) (omega (arith, is_b)) fields in
    (ap Some values.0, values.1)

pub one_row : OneStart row_spelling IsTableRow
one_row a b x y is_a is_b same =
    let a_key : length a.key ≤ 1024 = is_a.key.within in
    let b_key : length b.key ≤ 1024 = is_b.key.within in
    let keys = behind_field (row_spelling a ++ x) a.key (value_spelling a.value ++ x) (append_assoc (field a.key) (value_spelling a.value) x) (omega arith) b.key (value_spelling b.value) y (omega arith) same in
    let values = one_value a.value b.value x y is_a.short is_b.short keys.1 in
    ((λ i. record { key = keys.0 i; value = values.0 i }), values.1)

-- ---- what was read, beside a spelling

-- of a span
pub behind_lo : (from lo left : List ℕ) → from ≡ field lo ++ left → length lo < 2 ^ 64
    → (span : KeySpan) (rest : List ℕ) → IsSpan span → from ≡ span_spelling span ++ rest → (lo ≡ span.lo) × (left ≡ field span.hi ++ rest)
behind_lo from lo left read fits span rest is spelled =
    let within : length span.lo ≤ 1025 = is.lo.within in
    behind_field from lo left read fits span.lo (field span.hi) rest (omega arith) spelled

pub span_is : (from lo left : List ℕ) → from ≡ field lo ++ left → length lo < 2 ^ 64
    → (hi behind : List ℕ) → left ≡ field hi ++ behind → length hi < 2 ^ 64
    → (span : KeySpan) (rest : List ℕ) → IsSpan span → from ≡ span_spelling span ++ rest → IsSpan (span_of lo hi)
span_is from lo left read fits hi behind read_hi hi_fits span rest is spelled =
    let within : length span.hi ≤ 1025 = is.hi.within in
    let first = behind_lo from lo left read fits span rest is spelled in
    let second = one_field hi span.hi behind rest hi_fits (omega arith) (sym read_hi ∙ first.1) in
    subst IsSpan (λ i. span_of (sym first.0 i) (sym second.0 i)) is

-- of a row
pub behind_key : (from key left : List ℕ) → from ≡ field key ++ left → length key < 2 ^ 64
    → (row : KeyRow) (rest : List ℕ) → IsTableRow row → from ≡ row_spelling row ++ rest → (row.key ≡ key) × (left ≡ value_spelling row.value ++ rest)
behind_key from key left read fits row rest is spelled =
    let within : length row.key ≤ 1024 = is.key.within in
    let parts = behind_field from key left read fits row.key (value_spelling row.value) rest (omega arith) spelled in
    (sym parts.0, parts.1)

pub no_value : {X : Type 0} (left : List ℕ) (read : Option X) → IfNone read ((value : Option (List ℕ)) (rest : List ℕ) → IsShortValue value → left ≡ value_spelling value ++ rest → ⊥)
    → read ≡ None → (row : KeyRow) (rest : List ℕ) → IsTableRow row → left ≡ value_spelling row.value ++ rest → ⊥
no_value left None none is_none row rest is spelled = none row.value rest is.short spelled
no_value left (Some read) none is_none row rest is spelled = absurd (cc)

-- a mark, and what stands behind it
pub mark_first : (mark : ℕ) (from : List ℕ) → 1 ≤ length from → get_or from 0 0 ≡ mark → from ≡ mark ∷ take (length from - 1) (drop 1 from)
mark_first mark [] some first = absurd (omega arith)
mark_first mark (byte ∷ rest) some first = λ i. first i ∷ sym (take_rest (byte ∷ rest) 1) i

pub long_value : (from value left : List ℕ) → 1 ≤ length from → get_or from 0 0 ≡ 1 → take (length from - 1) (drop 1 from) ≡ field value ++ left → length value < 2 ^ 64
    → 65536 < length value → (short : Option (List ℕ)) (rest : List ℕ) → IsShortValue short → from ≡ value_spelling short ++ rest → ⊥
long_value from value left some first read fits long None rest is spelled =
    mark_differs rest (take (length from - 1) (drop 1 from)) (sym spelled ∙ mark_first 1 from some first)
long_value from value left some first read fits long (Some short) rest is spelled =
    let behind : 1 ∷ (field value ++ left) ≡ 1 ∷ (field short ++ rest) = ap (λ (l : List ℕ). 1 ∷ l) (sym read) ∙ sym (mark_first 1 from some first) ∙ spelled in
    let fields : field value ++ left ≡ field short ++ rest = cc in
    let same = one_field value short left rest fits (omega (arith, is)) fields in
    omega (arith, is, ap length same.0)
