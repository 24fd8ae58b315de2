-- What a compaction writes of a layer: its values alone, and the outputs that it is cut into.
use Rattle.std.specs.Prelude.{ℕ, ◌+◌, List, [], ◌∷◌, ◌++◌, length, map, filter, Bool, ◌&&◌, nat_le, if◌then◌else◌, Option, Some, None, is_some}
use Rattle.pb_keys.specs.Key.{prefix_of}
use Rattle.pb_keys.specs.Order.{is_below}
use Rattle.pb_keys.specs.Span.{KeySpan, span_of}
use Rattle.pb_rows.specs.Hull.{hull_of}
use Rattle.pb_rows.specs.Layer.{KeyRow, KeyLayer, layer_of}
use Rattle.pb_rows.specs.Viewed.{plain_view, viewed}

abbrev pub has_value : KeyRow → Bool
has_value row = is_some row.value

-- the rows that have a value, and no deletion
abbrev pub values_alone : KeyLayer → KeyLayer
values_alone layer = layer_of [] (filter has_value layer.rows)

-- the length of a value, where there is one
abbrev pub value_size : Option (List ℕ) → ℕ
value_size None = 0
value_size (Some value) = length value

-- the length of the key, and of the value where there is one
abbrev pub row_size : KeyRow → ℕ
row_size row = length row.key + value_size row.value

abbrev pub sizes_of : List KeyRow → ℕ
sizes_of [] = 0
sizes_of (row ∷ rows) = row_size row + sizes_of rows

-- the sizes by which an output is full
abbrev pub full_output : ℕ
full_output = 262144

-- whether behind so many bytes and this last prefix a new output begins at a prefix
abbrev pub is_point : ℕ → List ℕ → List ℕ → Bool
is_point sum last prefix = nat_le full_output sum && is_below last prefix

-- the points among rows that follow one of this prefix, where the rows since the last point have so many bytes:
-- a point is the first prefix behind the row by which the output is full
abbrev pub points_behind : ℕ → List ℕ → List KeyRow → List (List ℕ)
points_behind sum last [] = []
points_behind sum last (row ∷ rows) =
    if is_point sum last (prefix_of row.key)
    then prefix_of row.key ∷ points_behind (row_size row) (prefix_of row.key) rows
    else points_behind (sum + row_size row) (prefix_of row.key) rows

-- the prefixes at which a new output begins
abbrev pub cut_points : List KeyRow → List (List ℕ)
cut_points rows = points_behind 0 [] rows

-- from a start to the first end, from there to the second, and so on
abbrev pub spans_to : List ℕ → List (List ℕ) → List KeySpan
spans_to lo [] = []
spans_to lo (hi ∷ ends) = span_of lo hi ∷ spans_to hi ends

-- the bounds of the outputs: from the hull's start over the points to its end
abbrev pub bounds_within : List (List ℕ) → Option KeySpan → List KeySpan
bounds_within points None = []
bounds_within points (Some hull) = spans_to hull.lo (points ++ hull.hi ∷ [])

abbrev pub output_bounds : KeyLayer → List KeySpan
output_bounds layer = bounds_within (cut_points layer.rows) (hull_of layer)

-- what the layer shows through each of them
abbrev pub outputs_of : KeyLayer → List KeyLayer
outputs_of layer = map (λ bounds. viewed (plain_view bounds) layer) (output_bounds layer)
