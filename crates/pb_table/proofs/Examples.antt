-- The definitions, computed on worked examples.
use Rattle.std.proofs.Common.{◌≡◌, ℕ, [], ◌∷◌, List, refl, Some, None}
use Rattle.pb_bytes.specs.Varint.{groups, varint, field}
use Rattle.pb_keys.specs.Span.{span_of}
use Rattle.pb_rows.specs.Layer.{KeyLayer, layer_of}
use Rattle.pb_table.specs.Spelling.{format_1, table_spelling}
use Rattle.pb_table.specs.Spells.{Spells}

pub table_spelling-one_row : table_spelling 1 (layer_of [] (record { key = 97 ∷ []; value = Some (49 ∷ []) } ∷ [])) ≡ 1 ∷ 0 ∷ 1 ∷ 1 ∷ 97 ∷ 1 ∷ 1 ∷ 49 ∷ []
unfolding table_spelling format_1 field varint groups
table_spelling-one_row = refl

-- the span from a to c
pub table_spelling-one_span : table_spelling 1 (layer_of (span_of (97 ∷ []) (99 ∷ []) ∷ []) []) ≡ 1 ∷ 1 ∷ 1 ∷ 97 ∷ 1 ∷ 99 ∷ 0 ∷ []
unfolding table_spelling format_1 field varint groups
table_spelling-one_span = refl

-- both, with b deleted, and c to the empty value
pub table_spelling-mixed : table_spelling 1 (layer_of (span_of (97 ∷ []) (99 ∷ []) ∷ []) (record { key = 98 ∷ []; value = None } ∷ record { key = 99 ∷ []; value = Some [] } ∷ []))
    ≡ 1 ∷ 1 ∷ 1 ∷ 97 ∷ 1 ∷ 99 ∷ 2 ∷ 1 ∷ 98 ∷ 0 ∷ 1 ∷ 99 ∷ 1 ∷ 0 ∷ []
unfolding table_spelling format_1 field varint groups
table_spelling-mixed = refl

-- no other first byte is a format
pub no_format_2 : (rest : List ℕ) (layer : KeyLayer) → Spells (2 ∷ rest) layer → ⊥
no_format_2 rest layer spells = absurd (cc spells.format)
