-- What each changing command does to a map.
use Rattle.std.specs.Prelude.{ℕ, List, [], ◌∷◌}
use Rattle.std.specs.FinMap.{entries, insert, remove}
use Rattle.pb_keys.specs.Span.{KeySpan}
use Rattle.pb_keys.specs.View.{KeyView}
use Rattle.pb_keys.specs.Map.{Map, without}
use Rattle.pb_rows.specs.Layer.{KeyLayer}
use Rattle.pb_rows.specs.Applied.{applied, applied_in_turn}
use Rattle.pb_rows.specs.Viewed.{viewed}

-- the commands that change a map
pub data Changing : Type 0 where
  Set : (key : List ℕ) (value : List ℕ) → Changing
  Del : (key : List ℕ) → Changing
  DelRange : (span : KeySpan) → Changing
  Excise : (span : KeySpan) → Changing
  Ingest : (layers : List KeyLayer) → Changing
  IngestExcise : (span : KeySpan) (layers : List KeyLayer) → Changing
  External : (view : KeyView) (layer : KeyLayer) → Changing
  Receive : (span : KeySpan) (sub : Map) → Changing

-- the pairs put into the map
abbrev pub with_pairs : Map → List (List ℕ × List ℕ) → Map
with_pairs m [] = m
with_pairs m (pair ∷ pairs) = insert (with_pairs m pairs) pair.0 pair.1

-- the map after the command
abbrev pub after : Map → Changing → Map
after m (Set key value) = insert m key value
after m (Del key) = remove m key
after m (DelRange span) = without m span
after m (Excise span) = without m span
after m (Ingest layers) = applied_in_turn layers m
after m (IngestExcise span layers) = applied_in_turn layers (without m span)
after m (External view layer) = applied (viewed view layer) m
after m (Receive span sub) = with_pairs (without m span) (entries sub)

-- the map after the commands, the first at first
abbrev pub changed : Map → List Changing → Map
changed m [] = m
changed m (change ∷ changes) = changed (after m change) changes
