-- How long the bytes of a table are.
use Rattle.std.proofs.Common.{◌≡◌, ℕ, suc, ◌+◌, ◌*◌, ◌<◌, ◌≤◌, ◌^◌, List, [], ◌∷◌, ◌++◌, length, ap, arith, length-append, Option, Some, None}
use Rattle.std.specs.List.{All, flat_map}
use Rattle.pb_bytes.specs.Varint.{varint, field}
use Rattle.pb_bytes.proofs.VarintLemmas.{length-varint, length-varint_pos, length-field}
use Rattle.pb_keys.specs.Span.{KeySpan, IsSpan}
use Rattle.pb_rows.specs.Layer.{KeyRow, KeyLayer}
use Rattle.pb_table.specs.Spelling.{counted, span_spelling, value_spelling, row_spelling}
use Rattle.pb_table.specs.Spells.{IsTableRow, Spells}
use Rattle.pb_table.proofs.ItemLemmas.{IsShortValue}
use Rattle.pb_table.proofs.FormatLemmas.{spelled_1, rows_in_form}

-- from so many bytes to so many
pub record IsBetween (low high : ℕ) (bytes : List ℕ) : Type 0 where
  pub least : low ≤ length bytes
  pub most : length bytes ≤ high

each_between : {X : Type 0} (spelling : X → List ℕ) (Form : X → Type 0) (least most : ℕ) → ((item : X) → Form item → IsBetween least most (spelling item))
    → (items : List X) → All Form items → IsBetween (least * length items) (most * length items) (flat_map spelling items)
each_between spelling Form least most each [] formed = record { least = omega arith; most = omega arith }
each_between spelling Form least most each (item ∷ items) formed =
    let first = each item (formed 0 item (omega arith)) in
    let rest = each_between spelling Form least most each items (λ k d h. formed (suc k) d (omega arith)) in
    let sum : length (spelling item ++ flat_map spelling items) ≡ length (spelling item) + length (flat_map spelling items) = length-append (spelling item) (flat_map spelling items) in
    record { least = omega (arith, first.least, rest.least); most = omega (arith, first.most, rest.most) }

counted_between : {X : Type 0} (spelling : X → List ℕ) (Form : X → Type 0) (least most : ℕ) → ((item : X) → Form item → IsBetween least most (spelling item))
    → (items : List X) → All Form items → IsBetween (1 + least * length items) (10 + most * length items) (counted spelling items)
counted_between spelling Form least most each items formed =
    let number = length-varint (length items) in
    let some = length-varint_pos (length items) in
    let rest = each_between spelling Form least most each items formed in
    let sum : length (counted spelling items) ≡ length (varint (length items)) + length (flat_map spelling items) = length-append (varint (length items)) (flat_map spelling items) in
    record { least = omega (arith, rest.least); most = omega (arith, rest.most) }

field_between : (least most : ℕ) (bytes : List ℕ) → least ≤ length bytes → length bytes ≤ most → IsBetween (1 + least) (10 + most) (field bytes)
field_between least most bytes some within =
    let number = length-varint (length bytes) in
    let first = length-varint_pos (length bytes) in
    let sum = length-field bytes in
    record { least = omega arith; most = omega arith }

span_between : (span : KeySpan) → IsSpan span → IsBetween 4 2070 (span_spelling span)
span_between span is =
    let lo = field_between 1 1025 span.lo is.lo.some is.lo.within in
    let hi = field_between 1 1025 span.hi is.hi.some is.hi.within in
    let sum : length (span_spelling span) ≡ length (field span.lo) + length (field span.hi) = length-append (field span.lo) (field span.hi) in
    record { least = omega (arith, lo.least, hi.least); most = omega (arith, lo.most, hi.most) }

value_between : (value : Option (List ℕ)) → IsShortValue value → IsBetween 1 65547 (value_spelling value)
value_between None is = record { least = omega arith; most = omega arith }
value_between (Some bytes) is =
    let within = field_between 0 65536 bytes (omega arith) is in
    record { least = omega arith; most = omega (arith, within.most) }

row_between : (row : KeyRow) → IsTableRow row → IsBetween 3 66581 (row_spelling row)
row_between row is =
    let key = field_between 1 1024 row.key is.key.some is.key.within in
    let value = value_between row.value is.short in
    let sum : length (row_spelling row) ≡ length (field row.key) + length (value_spelling row.value) = length-append (field row.key) (value_spelling row.value) in
    record { least = omega (arith, key.least, value.least); most = omega (arith, key.most, value.most) }

-- the format, the spans and the rows
pub table_between : (bytes : List ℕ) (layer : KeyLayer) → Spells bytes layer
    → IsBetween (3 + 4 * length layer.dels + 3 * length layer.rows) (21 + 2070 * length layer.dels + 66581 * length layer.rows) bytes
table_between bytes layer spells =
    let dels = counted_between span_spelling IsSpan 4 2070 span_between layer.dels spells.of.in_form.spans in
    let rows = counted_between row_spelling IsTableRow 3 66581 row_between layer.rows (rows_in_form layer spells.of.in_form) in
    let sum : length (counted span_spelling layer.dels ++ counted row_spelling layer.rows) ≡ length (counted span_spelling layer.dels) + length (counted row_spelling layer.rows) =
    length-append (counted span_spelling layer.dels) (counted row_spelling layer.rows) in
    let whole = ap length (spelled_1 bytes layer spells) in
    record { least = omega (arith, dels.least, rows.least, whole); most = omega (arith, dels.most, rows.most, whole) }

-- a table's numbers of spans and of rows are varints
pub dels_fit : (bytes : List ℕ) (layer : KeyLayer) → Spells bytes layer → length layer.dels < 2 ^ 64
dels_fit bytes layer spells = let size = table_between bytes layer spells in omega (arith, size.least, spells.fits)

pub rows_fit : (bytes : List ℕ) (layer : KeyLayer) → Spells bytes layer → length layer.rows < 2 ^ 64
rows_fit bytes layer spells = let size = table_between bytes layer spells in omega (arith, size.least, spells.fits)
