-- The layer of a table's block, or its first line that has no place in one.
use Rattle.std.specs.Prelude.{ℕ, ◌+◌, Bool, true, ◌&&◌, if◌then◌else◌, List, [], ◌∷◌, Option, Some, None}
use Rattle.std.specs.Ordering.{is_lt}
use Rattle.pb_keys.specs.Key.{is_key, key_cmp}
use Rattle.pb_keys.specs.Span.{KeySpan, is_span, span_of}
use Rattle.pb_keys.specs.Value.{is_value}
use Rattle.pb_rows.specs.ChangingLayers.{row_of}
use Rattle.pb_rows.specs.Layer.{KeyRow, KeyLayer, layer_of}
use Rattle.pb_rows.specs.Over.{union_of}
use Rattle.pb_script.specs.declared.table_line.TableLine.{TableLine}
use Rattle.pb_script.specs.declared.table_line.TableLine.TheVariants.{Set, Del, DelRange}

pub data BlockRead : Type 0 where
  Makes : (layer : KeyLayer) → BlockRead
  -- the line at this place, counted from 0
  Bad : (at : ℕ) → BlockRead

abbrev pub is_above : Option (List ℕ) → List ℕ → Bool
is_above None key = true
is_above (Some last) key = is_lt (key_cmp last key)

-- keys, values and spans are in form, and each key is above that of the row before it: the first line that isn't so, where the first of
-- these lines stands at this place behind a row with this key
abbrev pub first_bad : ℕ → Option (List ℕ) → List TableLine → Option ℕ
first_bad at last [] = None
first_bad at last (Set key value ∷ lines) =
    if is_key key && is_value value && is_above last key then first_bad (at + 1) (Some key) lines else Some at
first_bad at last (Del key ∷ lines) = if is_key key && is_above last key then first_bad (at + 1) (Some key) lines else Some at
first_bad at last (DelRange lo hi ∷ lines) = if is_span (span_of lo hi) then first_bad (at + 1) last lines else Some at

abbrev pub spans_in : List TableLine → List KeySpan
spans_in [] = []
spans_in (Set key value ∷ lines) = spans_in lines
spans_in (Del key ∷ lines) = spans_in lines
spans_in (DelRange lo hi ∷ lines) = span_of lo hi ∷ spans_in lines

abbrev pub rows_in : List TableLine → List KeyRow
rows_in [] = []
rows_in (Set key value ∷ lines) = row_of key (Some value) ∷ rows_in lines
rows_in (Del key ∷ lines) = row_of key None ∷ rows_in lines
rows_in (DelRange lo hi ∷ lines) = rows_in lines

abbrev pub read_with : List TableLine → Option ℕ → BlockRead
read_with lines None = Makes (layer_of (union_of (spans_in lines) []) (rows_in lines))
read_with lines (Some at) = Bad at

-- an empty block is bad at 0
abbrev pub block_of : List TableLine → BlockRead
block_of [] = Bad 0
block_of (line ∷ lines) = read_with (line ∷ lines) (first_bad 0 None (line ∷ lines))
