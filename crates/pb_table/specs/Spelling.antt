-- The bytes of a layer in a table.
use Rattle.std.specs.Prelude.{◌≡◌, ℕ, ◌==◌, List, [], ◌∷◌, ◌++◌, length, Option, Some, None, if◌then◌else◌}
use Rattle.std.specs.List.{flat_map}
use Rattle.pb_bytes.specs.Varint.{varint, field}
use Rattle.pb_keys.specs.Span.{KeySpan}
use Rattle.pb_rows.specs.Layer.{KeyRow, KeyLayer}

-- how many there are, and then each
abbrev pub counted : {X : Type 0} → (X → List ℕ) → List X → List ℕ
counted spelling items = varint (length items) ++ flat_map spelling items

-- both ends
abbrev pub span_spelling : KeySpan → List ℕ
span_spelling span = field span.lo ++ field span.hi

-- 0 where the key is deleted, or else 1 and the value
abbrev pub value_spelling : Option (List ℕ) → List ℕ
value_spelling None = 0 ∷ []
value_spelling (Some value) = 1 ∷ field value

abbrev pub row_spelling : KeyRow → List ℕ
row_spelling row = field row.key ++ value_spelling row.value

-- format 1: the byte 1, the deletions of spans, and the rows
unfoldable pub format_1 : KeyLayer → List ℕ
format_1 layer = 1 ∷ (counted span_spelling layer.dels ++ counted row_spelling layer.rows)

-- the formats that there are
abbrev pub IsFormat : ℕ → Type 0
IsFormat format = format ≡ 1

-- the format of new tables
abbrev pub new_table_format : ℕ
new_table_format = 1

-- the layer's bytes in a format that there is
unfoldable pub table_spelling : ℕ → KeyLayer → List ℕ
table_spelling format layer = if format == 1 then format_1 layer else []
