-- What a table's bytes are, format by format.
use Rattle.std.proofs.Common.{◌≡◌, ℕ, List, ◌∷◌, ◌++◌, ap, ◌∙◌, refl}
use Rattle.std.specs.List.{All}
use Rattle.pb_rows.specs.Layer.{KeyLayer, IsLayer}
use Rattle.pb_table.specs.Spelling.{counted, span_spelling, row_spelling, IsFormat, format_1, table_spelling}
use Rattle.pb_table.specs.Spells.{IsTableRow, Spells}

-- the spans and the rows, as format 1 has them behind its first byte
abbrev pub parts_1 : KeyLayer → List ℕ
parts_1 layer = counted span_spelling layer.dels ++ counted row_spelling layer.rows

pub table_spelling-1 : (layer : KeyLayer) → table_spelling 1 layer ≡ 1 ∷ parts_1 layer
unfolding table_spelling format_1
table_spelling-1 layer = refl

-- a layer's bytes in each format that there is
pub table_spelling-of : (format : ℕ) (layer : KeyLayer) → IsFormat format → table_spelling format layer ≡ 1 ∷ parts_1 layer
table_spelling-of format layer known = ap (λ (n : ℕ). table_spelling n layer) known ∙ table_spelling-1 layer

-- the rows of a layer in form are in form
pub rows_in_form : (layer : KeyLayer) → IsLayer layer → All IsTableRow layer.rows
rows_in_form layer is k d h = record { key = is.keys k d h; short = is.short k d h }

-- what bytes that spell a layer are
pub spelled_1 : (bytes : List ℕ) (layer : KeyLayer) → Spells bytes layer → bytes ≡ 1 ∷ parts_1 layer
spelled_1 bytes layer spells = spells.same ∙ table_spelling-of _ layer spells.format
