-- Which bytes are a table, and of which layer.
use Rattle.std.specs.Prelude.{◌≡◌, ℕ, ◌<◌, ◌^◌, List, length, slice_index}
use Rattle.pb_keys.specs.Key.{IsKey}
use Rattle.pb_rows.specs.Layer.{KeyRow, KeyLayer, IsLayer, IsShortRow, IsFilled}
use Rattle.pb_table.specs.Spelling.{IsFormat, table_spelling}

-- a row that a layer can have
pub record IsTableRow (row : KeyRow) : Type 0 where
  pub key : IsKey row.key
  pub short : IsShortRow row

-- a layer that a table can have: one that isn't empty
pub record IsTableLayer (layer : KeyLayer) : Type 0 where
  pub in_form : IsLayer layer
  pub filled : IsFilled layer

-- the bytes are the layer's in the format that the first of them names, and no more than a number of 64 bits counts
pub record Spells (bytes : List ℕ) (layer : KeyLayer) : Type 0 where
  pub format : IsFormat (slice_index bytes 0)
  pub of : IsTableLayer layer
  pub fits : length bytes < 2 ^ 64
  pub same : bytes ≡ table_spelling (slice_index bytes 0) layer
