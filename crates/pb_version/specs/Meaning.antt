-- The map that a version means, where each backing stands for a layer.
use Rattle.std.specs.Prelude.{ℕ, List, map, reverse}
use Rattle.std.specs.FinMap.{empty}
use Rattle.pb_keys.specs.Map.{Map}
use Rattle.pb_rows.specs.Layer.{KeyLayer}
use Rattle.pb_rows.specs.Applied.{applied_in_turn}
use Rattle.pb_rows.specs.Viewed.{viewed}
use Rattle.pb_version.specs.Version.{TableView, VersionView, all_tables}

-- from the deepest level up, and level 0 by rising rank
abbrev pub tables_oldest_first : VersionView → List TableView
tables_oldest_first v = reverse (all_tables v)

-- what the table shows of its backing's layer
abbrev pub layer_of_table : (ℕ → KeyLayer) → TableView → KeyLayer
layer_of_table layers t = viewed t.view (layers t.backing)

-- the tables' layers applied to the empty map, the oldest at first
unfoldable pub map_of : VersionView → (ℕ → KeyLayer) → Map
map_of v layers = applied_in_turn (map (layer_of_table layers) (tables_oldest_first v)) empty
