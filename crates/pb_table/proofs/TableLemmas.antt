-- A table's bytes spell one layer.
use Rattle.std.proofs.Common.{◌≡◌, ℕ, ◌+◌, ◌<◌, ◌^◌, List, [], ◌∷◌, ◌++◌, length, refl, sym, ap, ◌∙◌, subst, arith, Option, Some, None, Bool, true}
use Rattle.std.specs.List.{All}
use Rattle.std.specs.Prelude.{◌==◌, Result, Ok, Err, IfOk, IfSome, IfNone}
use Rattle.std.proofs.lemmas.Bool.{eqb-true}
use Rattle.std.proofs.lemmas.List.{append-nil}
use Rattle.pb_keys.specs.Span.{KeySpan, IsSpan}
use Rattle.pb_rows.specs.Layer.{KeyRow, KeyLayer, IsLayer, layer_of, IsFilled}
use Rattle.pb_table.specs.Spelling.{counted, span_spelling, row_spelling, table_spelling}
use Rattle.pb_table.specs.Spells.{IsTableRow, IsTableLayer, Spells}
use Rattle.pb_table.proofs.CountedLemmas.{one_counted}
use Rattle.pb_table.proofs.FormatLemmas.{parts_1, table_spelling-1, rows_in_form, spelled_1}
use Rattle.pb_table.proofs.SizeLemmas.{dels_fit, rows_fit}
use Rattle.pb_table.proofs.ItemLemmas.{one_span, one_row}

-- the spans that were read are the layer's, and what is left is its rows
pub same_dels : (dels : List KeySpan) (left bytes : List ℕ) (layer : KeyLayer) → Spells bytes layer → All IsSpan dels → length dels < 2 ^ 64
    → counted span_spelling dels ++ left ≡ parts_1 layer → (dels ≡ layer.dels) × (left ≡ counted row_spelling layer.rows)
same_dels dels left bytes layer spells formed fits same =
    one_counted span_spelling IsSpan one_span dels layer.dels left (counted row_spelling layer.rows)
    formed spells.of.in_form.spans fits (dels_fit bytes layer spells) same

-- the rows that were read are the layer's, and nothing is left
pub same_rows : (rows : List KeyRow) (left bytes : List ℕ) (layer : KeyLayer) → Spells bytes layer → All IsTableRow rows → length rows < 2 ^ 64
    → counted row_spelling rows ++ left ≡ counted row_spelling layer.rows → (rows ≡ layer.rows) × (left ≡ [])
same_rows rows left bytes layer spells formed fits same =
    one_counted row_spelling IsTableRow one_row rows layer.rows left [] formed (rows_in_form layer spells.of.in_form) fits (rows_fit bytes layer spells)
    (same ∙ sym (append-nil (counted row_spelling layer.rows)))

behind_one : (x y : List ℕ) → 1 ∷ x ≡ 1 ∷ y → x ≡ y
behind_one x y same = cc

pub one_layer : (bytes : List ℕ) (a b : KeyLayer) → Spells bytes a → Spells bytes b → a ≡ b
one_layer bytes a b of_a of_b =
    let rest = behind_one (parts_1 a) (parts_1 b) (sym (spelled_1 bytes a of_a) ∙ spelled_1 bytes b of_b) in
    let dels = same_dels a.dels (counted row_spelling a.rows) bytes b of_b of_a.of.in_form.spans (dels_fit bytes a of_a) rest in
    let rows = same_rows a.rows [] bytes b of_b (rows_in_form a of_a.of.in_form) (rows_fit bytes a of_a)
    (append-nil (counted row_spelling a.rows) ∙ dels.1) in
    λ i. layer_of (dels.0 i) (rows.0 i)

-- ---- what is written

pub spells_1 : (rest : List ℕ) (layer : KeyLayer) → IsTableLayer layer → length rest + 1 < 2 ^ 64 → rest ≡ parts_1 layer → Spells (1 ∷ rest) layer
spells_1 rest layer is fits spelled = record {
  format = refl;
  of = is;
  fits = omega (arith, fits);
  same = ap (λ (l : List ℕ). 1 ∷ l) spelled ∙ sym (table_spelling-1 layer);
}

-- ---- what is read

-- behind the format
pub rest_1 : (rest : List ℕ) (layer : KeyLayer) → Spells (1 ∷ rest) layer → rest ≡ parts_1 layer
rest_1 rest layer spells = behind_one rest (parts_1 layer) (spelled_1 (1 ∷ rest) layer spells)

pub no_dels : (from : List ℕ)
    → ((spans : List KeySpan) (rest : List ℕ) → All IsSpan spans → length spans < 2 ^ 64 → from ≡ counted span_spelling spans ++ rest → ⊥)
    → (layer : KeyLayer) → Spells (1 ∷ from) layer → ⊥
no_dels from none layer spells = none layer.dels (counted row_spelling layer.rows) spells.of.in_form.spans (dels_fit (1 ∷ from) layer spells) (rest_1 from layer spells)

-- these spans were read, and are followed by this
pub record ReadDels (from : List ℕ) (dels : List KeySpan) (left : List ℕ) : Type 0 where
  pub split : from ≡ counted span_spelling dels ++ left
  pub in_form : All IsSpan dels
  pub fits : length dels < 2 ^ 64

pub record ReadRows (from : List ℕ) (rows : List KeyRow) (left : List ℕ) : Type 0 where
  pub split : from ≡ counted row_spelling rows ++ left
  pub in_form : All IsTableRow rows
  pub fits : length rows < 2 ^ 64

pub no_rows : (from : List ℕ) (dels : List KeySpan) (left : List ℕ) → ReadDels from dels left
    → ((rows : List KeyRow) (rest : List ℕ) → All IsTableRow rows → length rows < 2 ^ 64 → left ≡ counted row_spelling rows ++ rest → ⊥)
    → (layer : KeyLayer) → Spells (1 ∷ from) layer → ⊥
no_rows from dels left read none layer spells =
    let same = same_dels dels left (1 ∷ from) layer spells read.in_form read.fits (sym read.split ∙ rest_1 from layer spells) in
    none layer.rows [] (rows_in_form layer spells.of.in_form) (rows_fit (1 ∷ from) layer spells) (same.1 ∙ sym (append-nil (counted row_spelling layer.rows)))

-- the only layer that these bytes can spell, and then nothing follows
pub record IsOnly (dels : List KeySpan) (rows : List KeyRow) (behind : List ℕ) (layer : KeyLayer) : Type 0 where
  pub layer_is : layer ≡ layer_of dels rows
  pub ends : behind ≡ []

pub only : (from : List ℕ) (dels : List KeySpan) (left : List ℕ) (rows : List KeyRow) (behind : List ℕ) → ReadDels from dels left → ReadRows left rows behind
    → (layer : KeyLayer) → Spells (1 ∷ from) layer → IsOnly dels rows behind layer
only from dels left rows behind read_dels read_rows layer spells =
    let one = same_dels dels left (1 ∷ from) layer spells read_dels.in_form read_dels.fits (sym read_dels.split ∙ rest_1 from layer spells) in
    let two = same_rows rows behind (1 ∷ from) layer spells read_rows.in_form read_rows.fits (sym read_rows.split ∙ one.1) in
    record { layer_is = λ i. layer_of (sym one.0 i) (sym two.0 i); ends = two.1 }

pub read_layer : (from : List ℕ) (dels : List KeySpan) (left : List ℕ) (rows : List KeyRow) (behind : List ℕ) → ReadDels from dels left → ReadRows left rows behind
    → behind ≡ [] → length from + 1 < 2 ^ 64 → (layer : KeyLayer) → layer ≡ layer_of dels rows → IsLayer layer → IsFilled layer → Spells (1 ∷ from) layer
read_layer from dels left rows behind read_dels read_rows ends fits layer is in_form filled =
    let split : from ≡ counted span_spelling dels ++ counted row_spelling rows =
    read_dels.split ∙ ap (λ (l : List ℕ). counted span_spelling dels ++ l)
    (read_rows.split ∙ ap (λ (l : List ℕ). counted row_spelling rows ++ l) ends ∙ append-nil (counted row_spelling rows)) in
    spells_1 from layer (record { in_form = in_form; filled = filled }) fits (split ∙ ap parts_1 (sym is))

-- the same of what is made of the parts
pub found_layer : (from : List ℕ) (dels : List KeySpan) (left : List ℕ) (rows : List KeyRow) (behind : List ℕ) → ReadDels from dels left → ReadRows left rows behind
    → behind ≡ [] → length from + 1 < 2 ^ 64 → (made : Option KeyLayer) → IfSome made (λ layer. layer ≡ layer_of dels rows) → IfSome made IsLayer → IfSome made IsFilled
    → IfSome made (λ layer. Spells (1 ∷ from) layer)
found_layer from dels left rows behind read_dels read_rows ends fits None is in_form filled = tt
found_layer from dels left rows behind read_dels read_rows ends fits (Some layer) is in_form filled =
    read_layer from dels left rows behind read_dels read_rows ends fits layer is in_form filled

pub no_layer : (from : List ℕ) (dels : List KeySpan) (left : List ℕ) (rows : List KeyRow) (behind : List ℕ) → ReadDels from dels left → ReadRows left rows behind
    → (made : Option KeyLayer) → IfNone made (IsLayer (layer_of dels rows) → IsFilled (layer_of dels rows) → ⊥)
    → IfNone made ((layer : KeyLayer) → Spells (1 ∷ from) layer → ⊥)
no_layer from dels left rows behind read_dels read_rows None none = λ layer spells.
    let is = (only from dels left rows behind read_dels read_rows layer spells).layer_is in
    none (subst IsLayer is spells.of.in_form) (subst (λ (l : KeyLayer). IsFilled l) is spells.of.filled)
no_layer from dels left rows behind read_dels read_rows (Some layer) none = tt

-- the first byte, the spans and the rows, one behind the other
pub written_1 : (layer : KeyLayer) (dels : List KeySpan) (rows : List KeyRow) → dels ≡ layer.dels → rows ≡ layer.rows
    → (([] ++ 1 ∷ []) ++ counted span_spelling dels) ++ counted row_spelling rows ≡ table_spelling 1 layer
written_1 layer dels rows dels_are rows_are =
    (λ i. 1 ∷ (counted span_spelling (dels_are i) ++ counted row_spelling (rows_are i))) ∙ sym (table_spelling-1 layer)

-- what a test for no bytes says
pub none_left : (bytes : List ℕ) (answer : Bool) → answer ≡ (length bytes == 0) → answer ≡ true → bytes ≡ []
none_left [] answer is empty = refl
none_left (byte ∷ bytes) answer is empty =
    let tested : (length (byte ∷ bytes) == 0) ≡ true = sym is ∙ empty in
    let none : length (byte ∷ bytes) ≡ 0 = eqb-true _ _ tested in
    absurd (omega arith)

-- what is read of bytes that spell a layer
pub is_read : (bytes : List ℕ) (read : Option KeyLayer) → IfSome read (λ layer. Spells bytes layer) → IfNone read ((layer : KeyLayer) → Spells bytes layer → ⊥)
    → (layer : KeyLayer) → Spells bytes layer → read ≡ Some layer
is_read bytes None found none layer spells = absurd (none layer spells)
is_read bytes (Some read) found none layer spells = ap Some (one_layer bytes read layer found spells)

pub is_read_ok : {E : Type 0} (bytes : List ℕ) (result : Result (Option KeyLayer) E) → IfOk result (λ read. IfSome read (λ layer. Spells bytes layer))
    → IfOk result (λ read. IfNone read ((layer : KeyLayer) → Spells bytes layer → ⊥))
    → IfOk result (λ read. (layer : KeyLayer) → Spells bytes layer → read ≡ Some layer)
is_read_ok bytes (Ok read) found none = is_read bytes read found none
is_read_ok bytes (Err error) found none = tt
