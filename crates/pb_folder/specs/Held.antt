-- The layers behind what a folder says.
use Rattle.std.specs.Prelude.{◌≡◌, ℕ, List, length, IsSomeAnd, All}
use Rattle.std.specs.List.{filter_map}
use Rattle.pb_devices.specs.Contents.{Folder}
use Rattle.pb_devices.specs.Objects.{Objects}
use Rattle.pb_names.specs.Spelling.{file_name}
use Rattle.pb_names.specs.declared.file_kind.FileKind.TheVariants.{Table}
use Rattle.pb_payloads.specs.Catalogue.{Entries}
use Rattle.pb_payloads.specs.Places.{bytes_of, object_of}
use Rattle.pb_payloads.specs.Logged.{Waiting}
use Rattle.pb_payloads.specs.Log.{waiting_in}
use Rattle.pb_edit.specs.Edit.{CreatedItem}
use Rattle.pb_rows.specs.Layer.{KeyLayer}
use Rattle.pb_rows.specs.Viewed.{MapsWithin}
use Rattle.pb_table.specs.Spells.{Spells}
use Rattle.pb_version.specs.Stored.{stored_in}
use Rattle.pb_version.specs.Version.{TableView, VersionView, all_tables}
use Rattle.pb_folder.specs.Said.{Said}

-- the names of the objects that the entries give for what the version stores
abbrev pub named_objects : Entries → VersionView → List (List ℕ)
named_objects entries version = filter_map (λ item. object_of entries item.number) (stored_in version)

-- ---- layers

-- bytes of this size that spell the layer
pub record IsTableOf (size : ℕ) (layer : KeyLayer) (bytes : List ℕ) : Type 0 where
  pub len : length bytes ≡ size
  pub spelled : Spells bytes layer

abbrev pub IsStored : Folder → Objects → Entries → (ℕ → KeyLayer) → CreatedItem → Type 0
IsStored folder objects entries layers item = IsSomeAnd (bytes_of folder objects entries item.number) (IsTableOf item.size (layers item.number))

abbrev pub IsMapped : (ℕ → KeyLayer) → TableView → Type 0
IsMapped layers table = MapsWithin table.view (layers table.backing)

abbrev pub IsLocal : Folder → (ℕ → KeyLayer) → Waiting → Type 0
IsLocal folder layers table = IsSomeAnd (folder (file_name Table table.number)) (IsTableOf table.size (layers table.number))

-- by number, these are the layers of all that the version stores, and each view keeps keys and ends within their limits
pub record HoldsVersion (folder : Folder) (objects : Objects) (entries : Entries) (version : VersionView) (layers : ℕ → KeyLayer) : Type 0 where
  pub stored : All (IsStored folder objects entries layers) (stored_in version)
  pub mapped : All (IsMapped layers) (all_tables version)

-- and of the local tables that wait in the log
pub record Holds (folder : Folder) (objects : Objects) (said : Said) (layers : ℕ → KeyLayer) : Type 0 where
  pub tables : HoldsVersion folder objects said.entries said.version layers
  pub waiting : All (IsLocal folder layers) (waiting_in said.log)
