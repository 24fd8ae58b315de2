-- The count and the map that a folder's words and layers mean.
use Rattle.std.specs.Prelude.{ℕ, max, List, map, Some, None}
use Rattle.pb_keys.specs.Map.{Map}
use Rattle.pb_rows.specs.Layer.{KeyLayer}
use Rattle.pb_rows.specs.Changing.{Changing, changed}
use Rattle.pb_payloads.specs.Logged.{Logged, Waiting}
use Rattle.pb_payloads.specs.Logged.Logged.{Set, Del, DelRange, Ingest}
use Rattle.pb_payloads.specs.Log.{LogEntry, last_count}
use Rattle.pb_version.specs.Meaning.{map_of}
use Rattle.pb_folder.specs.Said.{Said}

abbrev pub layers_of : (ℕ → KeyLayer) → List Waiting → List KeyLayer
layers_of layers tables = map (λ table. layers table.number) tables

-- what a logged command does to a map; an ingest applies the layers of its tables
abbrev pub changing_of : (ℕ → KeyLayer) → Logged → Changing
changing_of layers (Set key value) = Changing.Set key value
changing_of layers (Del key) = Changing.Del key
changing_of layers (DelRange span) = Changing.DelRange span
changing_of layers (Ingest None tables) = Changing.Ingest (layers_of layers tables)
changing_of layers (Ingest (Some span) tables) = Changing.IngestExcise span (layers_of layers tables)

-- the map after the commands of the log, the first at first
abbrev pub after_log : (ℕ → KeyLayer) → Map → List LogEntry → Map
after_log layers m log = changed m (map (λ entry. changing_of layers entry.command) log)

-- the greater of the version's count and the last one in the log
abbrev pub said_count : Said → ℕ
said_count said = max said.version.five.accepted (last_count said.version.five.flushed said.log)

-- the map of the version's tables, and then the commands of the log
abbrev pub said_map : Said → (ℕ → KeyLayer) → Map
said_map said layers = after_log layers (map_of said.version layers) said.log
