-- What a folder stands for: a count of commands, and a map.
use Rattle.std.specs.Prelude.{◌≡◌, ℕ, ◌⊎◌}
use Rattle.std.specs.FinMap.{empty}
use Rattle.pb_devices.specs.Contents.{Folder}
use Rattle.pb_devices.specs.Objects.{Objects}
use Rattle.pb_keys.specs.Map.{Map}
use Rattle.pb_rows.specs.Layer.{KeyLayer}
use Rattle.pb_gate_log.specs.NewFolder.{IsNew}
use Rattle.pb_folder.specs.Said.{Said, Says}
use Rattle.pb_folder.specs.Held.{Holds}
use Rattle.pb_folder.specs.Meaning.{said_count, said_map}

-- the files say and, with the objects, hold what means this count and this map
pub record Means (folder : Folder) (objects : Objects) (id n : ℕ) (m : Map) : Type 0 where
  pub said : Said
  pub layers : ℕ → KeyLayer
  pub says : Says folder id said
  pub holds : Holds folder objects said layers
  pub count : n ≡ said_count said
  pub pairs : m ≡ said_map said layers

-- of the store with this id, beside the objects of a bucket
abbrev pub StandsFor : Folder → Objects → ℕ → ℕ → Map → Type 0
StandsFor folder objects id n m = (IsNew folder × (n ≡ 0) × (m ≡ empty)) ⊎ Means folder objects id n m
