-- A layer applied to a map.
use Rattle.std.specs.Prelude.{ℕ, List, [], ◌∷◌, not, Option, Some, None}
use Rattle.std.specs.FinMap.{insert, remove, retain_keys}
use Rattle.pb_keys.specs.Span.{KeySpan}
use Rattle.pb_keys.specs.Map.{Map}
use Rattle.pb_rows.specs.Layer.{KeyRow, KeyLayer}
use Rattle.pb_rows.specs.Verdict.{is_covered}

-- the pairs that none of the spans holds
abbrev pub without_all : Map → List KeySpan → Map
without_all m spans = retain_keys m (λ key. not (is_covered spans key))

-- the key with its value, or without the key
abbrev pub with_value : Map → List ℕ → Option (List ℕ) → Map
with_value m key None = remove m key
with_value m key (Some value) = insert m key value

-- each row put, or its key removed
abbrev pub with_rows : Map → List KeyRow → Map
with_rows m [] = m
with_rows m (row ∷ rows) = with_value (with_rows m rows) row.key row.value

-- the map without what the layer's spans hold, and then with its rows
unfoldable pub applied : KeyLayer → Map → Map
applied layer m = with_rows (without_all m layer.dels) layer.rows

-- layers applied from the last to the first, so that the first is the newest
abbrev pub applied_newest_first : List KeyLayer → Map → Map
applied_newest_first [] m = m
applied_newest_first (layer ∷ older) m = applied layer (applied_newest_first older m)

-- each layer applied in turn, the first at first
abbrev pub applied_in_turn : List KeyLayer → Map → Map
applied_in_turn [] m = m
applied_in_turn (layer ∷ later) m = applied_in_turn later (applied layer m)
