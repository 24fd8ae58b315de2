-- What is amiss with the bytes that a version stores.
use Rattle.std.specs.Prelude.{◌≡◌, ℕ, List, Some, None, IsSomeAnd, unwrap_or}
use Rattle.std.specs.FinMap.{get}
use Rattle.pb_devices.specs.Contents.{Folder}
use Rattle.pb_devices.specs.Objects.{Objects}
use Rattle.pb_edit.specs.Edit.{CreatedItem}
use Rattle.pb_folder.specs.Held.{IsTableOf}
use Rattle.pb_names.specs.Spelling.{file_name}
use Rattle.pb_names.specs.declared.file_kind.FileKind.TheVariants.{Table}
use Rattle.pb_payloads.specs.Catalogue.{Entries}
use Rattle.pb_payloads.specs.Places.{bytes_of, object_of}
use Rattle.pb_rows.specs.Layer.{KeyLayer}

-- the name of the number's object, or without an entry that of its table file
abbrev pub place_name : Entries → ℕ → List ℕ
place_name entries number = unwrap_or (object_of entries number) (file_name Table number)

-- under the item's name stand no bytes of its size that spell a layer
pub record IsDamaged (folder : Folder) (objects : Objects) (entries : Entries) (name : List ℕ) (item : CreatedItem) : Type 0 where
  pub named : name ≡ place_name entries item.number
  pub no_table : (layer : KeyLayer) → IsSomeAnd (bytes_of folder objects entries item.number) (IsTableOf item.size layer) → ⊥

-- the item has its bytes in an object that isn't there
pub record IsMissing (objects : Objects) (entries : Entries) (name : List ℕ) (item : CreatedItem) : Type 0 where
  pub named : object_of entries item.number ≡ Some name
  pub absent : get objects name ≡ None
