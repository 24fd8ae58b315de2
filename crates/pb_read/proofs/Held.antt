-- Where what a version stores is held, nothing behind its tables is amiss.
use Rattle.std.proofs.Common.{◌≡◌, ℕ, List, Option, Some, None, refl, sym, ap, ◌∙◌}
use Rattle.std.specs.Prelude.{option_and_then}
use Rattle.std.specs.FinMap.{get}
use Rattle.std.proofs.lemmas.List.Elements.{All-contains}
use Rattle.pb_devices.specs.Contents.{Folder}
use Rattle.pb_devices.specs.Objects.{Objects}
use Rattle.pb_devices.proofs.Options.{some_of}
use Rattle.pb_edit.specs.Edit.{CreatedItem}
use Rattle.pb_folder.specs.Held.{HoldsVersion, IsStored, IsTableOf}
use Rattle.pb_names.specs.Spelling.{file_name}
use Rattle.pb_names.specs.declared.file_kind.FileKind.TheVariants.{Table}
use Rattle.pb_payloads.specs.Catalogue.{Entries}
use Rattle.pb_payloads.specs.Places.{bytes_of, in_place}
use Rattle.pb_read.specs.Damage.{IsDamaged, IsMissing}
use Rattle.pb_read.specs.Tables.{HasTable}
use Rattle.pb_rows.specs.Layer.{KeyLayer}
use Rattle.pb_version.specs.Stored.{backing_of}
use Rattle.pb_version.specs.Version.{TableView, VersionView, all_tables}
use Rattle.pb_read.proofs.Passing.{each_behind}
use Rattle.pb_read.proofs.Reading.{no_value}

-- behind the table that one speaks of
stored_behind : (Is : CreatedItem → Type 0) (folder : Folder) (objects : Objects) (entries : Entries) (version : VersionView)
    (layers : ℕ → KeyLayer) (key : List ℕ) → HoldsVersion folder objects entries version layers
    → (has : HasTable Is key (all_tables version))
    → IsStored folder objects entries layers (backing_of has.table)
stored_behind Is folder objects entries version layers key holds has =
    All-contains (λ (t : TableView). IsStored folder objects entries layers (backing_of t)) (all_tables version) has.table
    (each_behind (IsStored folder objects entries layers) version holds.stored) has.stands

pub none_is_damaged : (folder : Folder) (objects : Objects) (entries : Entries) (version : VersionView) (layers : ℕ → KeyLayer)
    (key name : List ℕ) → HoldsVersion folder objects entries version layers
    → HasTable (IsDamaged folder objects entries name) key (all_tables version) → ⊥
none_is_damaged folder objects entries version layers key name holds has =
    has.behind.no_table (layers has.table.backing)
    (stored_behind (IsDamaged folder objects entries name) folder objects entries version layers key holds has)

-- a number whose object isn't there has no bytes
missing_bytes : (folder : Folder) (objects : Objects) (entries : Entries) (name : List ℕ) (item : CreatedItem)
    → IsMissing objects entries name item → bytes_of folder objects entries item.number ≡ None
missing_bytes folder objects entries name item missing =
    let file = folder (file_name Table item.number) in
    ap (λ (place : Option (List ℕ)). in_place place file (option_and_then (get objects) place)) missing.named
    ∙ ap (in_place (Some name) file) missing.absent ∙ no_object file
  where
    no_object : (file : Option (List ℕ)) → in_place (Some name) file None ≡ None
    no_object None = refl
    no_object (Some bytes) = refl

pub none_is_missing : (folder : Folder) (objects : Objects) (entries : Entries) (version : VersionView) (layers : ℕ → KeyLayer)
    (key name : List ℕ) → HoldsVersion folder objects entries version layers
    → HasTable (IsMissing objects entries name) key (all_tables version) → ⊥
none_is_missing folder objects entries version layers key name holds has =
    let stored = stored_behind (IsMissing objects entries name) folder objects entries version layers key holds has in
    let found = some_of (bytes_of folder objects entries has.table.backing) (IsTableOf has.table.size (layers has.table.backing)) stored in
    no_value found.0 (sym (missing_bytes folder objects entries name (backing_of has.table) has.behind) ∙ found.1)
