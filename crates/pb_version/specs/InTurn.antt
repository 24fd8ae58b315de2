-- What tables say of a key, and levels one after the other.
use Rattle.std.specs.Prelude.{ℕ, List, [], ◌∷◌, map, None}
use Rattle.std.specs.Option.{option_or}
use Rattle.pb_rows.specs.Layer.{KeyLayer}
use Rattle.pb_rows.specs.Verdict.{Verdict, verdicts}
use Rattle.pb_version.specs.Version.{TableView}
use Rattle.pb_version.specs.Meaning.{layer_of_table}

-- the first of the tables that says something decides
abbrev pub tables_say : (ℕ → KeyLayer) → List TableView → List ℕ → Verdict
tables_say layers tables key = verdicts (map (layer_of_table layers) tables) key

-- the first level that says something decides
abbrev pub levels_say : (ℕ → KeyLayer) → List (List TableView) → List ℕ → Verdict
levels_say layers [] key = None
levels_say layers (tables ∷ deeper) key = option_or (tables_say layers tables key) (levels_say layers deeper key)
