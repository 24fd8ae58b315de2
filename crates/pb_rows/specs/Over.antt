-- A newer layer over an older one.
use Rattle.std.specs.Prelude.{List, [], ◌∷◌, not, if◌then◌else◌, filter}
use Rattle.std.specs.FinMap.Entries.{by_order}
use Rattle.pb_keys.specs.Order.{is_below}
use Rattle.pb_keys.specs.Key.{key_cmp}
use Rattle.pb_keys.specs.Span.{KeySpan, joined}
use Rattle.pb_rows.specs.Layer.{KeyRow, KeyLayer, layer_of}
use Rattle.pb_rows.specs.Verdict.{is_covered}

-- a span beside others: those that it overlaps or touches become one with it
abbrev pub with_span : KeySpan → List KeySpan → List KeySpan
with_span s [] = s ∷ []
with_span s (t ∷ ts) = if is_below s.hi t.lo then s ∷ t ∷ ts else if is_below t.hi s.lo then t ∷ with_span s ts else with_span (joined s t) ts

-- the spans that hold what one of both lists holds
abbrev pub union_of : List KeySpan → List KeySpan → List KeySpan
union_of [] ts = ts
union_of (s ∷ ss) ts = with_span s (union_of ss ts)

-- a row in its place among others, instead of one with the same key
abbrev pub with_row : KeyRow → List KeyRow → List KeyRow
with_row row [] = row ∷ []
with_row row (s ∷ ss) = by_order (key_cmp row.key s.key) (row ∷ s ∷ ss) (row ∷ ss) (s ∷ with_row row ss)

abbrev pub rows_over : List KeyRow → List KeyRow → List KeyRow
rows_over [] older = older
rows_over (row ∷ newer) older = with_row row (rows_over newer older)

-- the rows whose keys none of the spans holds
abbrev pub uncovered : List KeySpan → List KeyRow → List KeyRow
uncovered dels rows = filter (λ row. not (is_covered dels row.key)) rows

-- all spans of both; the newer rows, and the older rows whose keys are neither in a newer span nor among the newer rows
unfoldable pub over : KeyLayer → KeyLayer → KeyLayer
over newer older = layer_of (union_of newer.dels older.dels) (rows_over newer.rows (uncovered newer.dels older.rows))

-- layers put over one another, the first the newest
abbrev pub over_all : List KeyLayer → KeyLayer
over_all [] = layer_of [] []
over_all (layer ∷ older) = over layer (over_all older)
