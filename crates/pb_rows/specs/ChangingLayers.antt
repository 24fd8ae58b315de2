-- The layer that does what changing commands do.
use Rattle.std.specs.Prelude.{ℕ, List, [], ◌∷◌, All, map, reverse, Option, Some, None}
use Rattle.std.specs.FinMap.{entries}
use Rattle.std.specs.List.{flat_map}
use Rattle.pb_keys.specs.Key.{IsKey}
use Rattle.pb_keys.specs.Span.{IsSpan}
use Rattle.pb_keys.specs.Value.{IsValue}
use Rattle.pb_keys.specs.View.{KeyView, IsView}
use Rattle.pb_rows.specs.Changing.{Changing}
use Rattle.pb_rows.specs.Changing.Changing.{Set, Del, DelRange, Excise, Ingest, IngestExcise, External, Receive}
use Rattle.pb_rows.specs.Layer.{KeyRow, KeyLayer, IsLayer, layer_of}
use Rattle.pb_rows.specs.Over.{over, over_all}
use Rattle.pb_rows.specs.Viewed.{viewed, MapsWithin}

abbrev pub row_of : List ℕ → Option (List ℕ) → KeyRow
row_of key value = record { key = key; value = value }

-- the pair as a row
abbrev pub row_of_pair : List ℕ × List ℕ → KeyRow
row_of_pair pair = row_of pair.0 (Some pair.1)

-- the layer of one command
abbrev pub layer_of_changing : Changing → KeyLayer
layer_of_changing (Set key value) = layer_of [] (row_of key (Some value) ∷ [])
layer_of_changing (Del key) = layer_of [] (row_of key None ∷ [])
layer_of_changing (DelRange span) = layer_of (span ∷ []) []
layer_of_changing (Excise span) = layer_of (span ∷ []) []
layer_of_changing (Ingest layers) = over_all (reverse layers)
layer_of_changing (IngestExcise span layers) = over (over_all (reverse layers)) (layer_of (span ∷ []) [])
layer_of_changing (External view layer) = viewed view layer
layer_of_changing (Receive span sub) = layer_of (span ∷ []) (map row_of_pair (entries sub))

-- a layer with the commands put over it, one after another
abbrev pub with_changes : KeyLayer → List Changing → KeyLayer
with_changes layer [] = layer
with_changes layer (change ∷ changes) = with_changes (over (layer_of_changing change) layer) changes

-- the layer of the commands, of which the last is the newest
abbrev pub layer_of_changes : List Changing → KeyLayer
layer_of_changes changes = with_changes (layer_of [] []) changes

-- the pair of a row that has a value
abbrev pub pairs_of : List ℕ → Option (List ℕ) → List (List ℕ × List ℕ)
pairs_of key None = []
pairs_of key (Some value) = (key, value) ∷ []

-- the rows with a value, in order
abbrev pub live_pairs : KeyLayer → List (List ℕ × List ℕ)
live_pairs layer = flat_map (λ row. pairs_of row.key row.value) layer.rows

-- a layer in form, whose keys and ends keep their limits through a view in form
pub record IsExternal (view : KeyView) (layer : KeyLayer) : Type 0 where
  pub in_form : IsView view
  pub of : IsLayer layer
  pub within : MapsWithin view layer

-- keys, values, spans, layers and views are in form
abbrev pub IsChanging : Changing → Type 0
IsChanging (Set key value) = IsKey key × IsValue value
IsChanging (Del key) = IsKey key
IsChanging (DelRange span) = IsSpan span
IsChanging (Excise span) = IsSpan span
IsChanging (Ingest layers) = All IsLayer layers
IsChanging (IngestExcise span layers) = IsSpan span × All IsLayer layers
IsChanging (External view layer) = IsExternal view layer
IsChanging (Receive span sub) = IsSpan span × All (λ pair. IsKey pair.0 × IsValue pair.1) (entries sub)
