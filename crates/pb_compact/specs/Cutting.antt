-- What of a layer lies in front of an end, and what lies from there on.
use Rattle.std.specs.Prelude.{ℕ, List, [], ◌∷◌, Bool, false, not, filter, if◌then◌else◌}
use Rattle.std.specs.List.{flat_map}
use Rattle.pb_keys.specs.Key.{prefix_of}
use Rattle.pb_keys.specs.Order.{is_below, lesser, greater}
use Rattle.pb_keys.specs.Span.{KeySpan, span_of}
use Rattle.pb_rows.specs.Layer.{KeyRow, KeyLayer, layer_of}

abbrev pub is_row_below : List ℕ → KeyRow → Bool
is_row_below end row = is_below (prefix_of row.key) end

-- the part of a span in front of an end, if there is one
abbrev pub part_below : List ℕ → KeySpan → List KeySpan
part_below end span = if is_below span.lo end then span_of span.lo (lesser end span.hi) ∷ [] else []

-- the part of a span from an end on, if there is one
abbrev pub part_from : List ℕ → KeySpan → List KeySpan
part_from end span = if is_below end span.hi then span_of (greater end span.lo) span.hi ∷ [] else []

abbrev pub layer_below : List ℕ → KeyLayer → KeyLayer
layer_below end layer = layer_of (flat_map (part_below end) layer.dels) (filter (is_row_below end) layer.rows)

abbrev pub layer_from : List ℕ → KeyLayer → KeyLayer
layer_from end layer = layer_of (flat_map (part_from end) layer.dels) (filter (λ row. not (is_row_below end row)) layer.rows)

-- whether the first row, if there is one, lies in front of the end
abbrev pub is_first_below : List ℕ → List KeyRow → Bool
is_first_below end [] = false
is_first_below end (row ∷ rows) = is_row_below end row

-- whether the first span, if there is one, begins in front of the end
abbrev pub begins_below : List ℕ → List KeySpan → Bool
begins_below end [] = false
begins_below end (span ∷ spans) = is_below span.lo end
