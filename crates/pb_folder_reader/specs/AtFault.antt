-- Which file is at fault where a folder stands for nothing.
use Rattle.std.specs.Prelude.{◌≡◌, ℕ, ◌<◌, ◌≤◌, ◌⊎◌, List, [], length, get_or, Option, Some, None, All}
use Rattle.pb_devices.specs.Contents.{Folder}
use Rattle.pb_devices.specs.Objects.{Objects}
use Rattle.pb_edit.specs.Edit.{CreatedItem}
use Rattle.pb_gate_log.specs.NewFolder.{IsNew}
use Rattle.pb_gate_log.specs.Payloads.{HasPayloads}
use Rattle.pb_names.specs.Spelling.{current_name, file_name}
use Rattle.pb_names.specs.declared.file_kind.FileKind.TheVariants.{Manifest, Catalogue, Log, Table}
use Rattle.pb_payloads.specs.Catalogue.{Entries, SaysCatalogue, with_id}
use Rattle.pb_payloads.specs.Current.{Pointer, SaysCurrent}
use Rattle.pb_payloads.specs.Log.{LogEntry, SaysLog}
use Rattle.pb_payloads.specs.Places.{bytes_of, object_of}
use Rattle.pb_rows.specs.Layer.{KeyLayer}
use Rattle.pb_rows.specs.Viewed.{MapsWithin}
use Rattle.pb_version.specs.SaysVersion.{SaysVersion}
use Rattle.pb_version.specs.Version.{TableView, VersionView, all_tables}
use Rattle.pb_folder.specs.Said.{Said}
use Rattle.pb_folder_reader.specs.Said.{IsRead}
use Rattle.pb_folder_reader.specs.Tables.{IsBehind}

-- ---- one file

abbrev pub SaysManifest : Folder → ℕ → VersionView → Type 0
SaysManifest folder number version = HasPayloads folder (file_name Manifest number) (λ list. SaysVersion list version)

abbrev pub SaysEntries : Folder → ℕ → ℕ → Entries → Type 0
SaysEntries folder number id entries = HasPayloads folder (file_name Catalogue number) (λ list. SaysCatalogue list (with_id id entries))

-- the current pointer, where it names no file; else the manifest, where it says no version
abbrev pub IsManifestAtFault : Folder → ℕ → List ℕ → Type 0
IsManifestAtFault folder number file =
    ((file ≡ current_name) × (folder (file_name Manifest number) ≡ None))
    ⊎ ((file ≡ file_name Manifest number) × ((version : VersionView) → SaysManifest folder number version → ⊥))

abbrev pub IsCatalogueAtFault : Folder → ℕ → ℕ → List ℕ → Type 0
IsCatalogueAtFault folder number id file =
    ((file ≡ current_name) × (folder (file_name Catalogue number) ≡ None))
    ⊎ ((file ≡ file_name Catalogue number) × ((entries : Entries) → SaysEntries folder number id entries → ⊥))

abbrev pub IsLogAtFault : Folder → ℕ → ℕ → List ℕ → Type 0
IsLogAtFault folder number flushed file =
    (file ≡ file_name Log number) × ((log : List LogEntry) → HasPayloads folder (file_name Log number) (λ list. SaysLog flushed list log) → ⊥)

-- ---- tables

-- the name at which the bytes of a number have to be: a local file counts beside an entry, too, since there it is at fault
abbrev pub place_among : List ℕ → Option (List ℕ) → Option (List ℕ) → List ℕ
place_among own None file = own
place_among own (Some name) None = name
place_among own (Some name) (Some bytes) = own

abbrev pub place_of : Folder → Entries → ℕ → List ℕ
place_of folder entries number = place_among (file_name Table number) (object_of entries number) (folder (file_name Table number))

-- there are no bytes of the number, or not as many, or they spell no layer
abbrev pub IsPlaceAtFault : Folder → Objects → Entries → ℕ → ℕ → List ℕ → Type 0
IsPlaceAtFault folder objects entries number size file =
    (file ≡ place_of folder entries number) × ((layer : KeyLayer) → IsBehind (bytes_of folder objects entries) number size layer → ⊥)

-- that, or the view keeps no layer's keys and ends within their limits
abbrev pub IsTableAtFault : Folder → Objects → Entries → TableView → List ℕ → Type 0
IsTableAtFault folder objects entries table file =
    IsPlaceAtFault folder objects entries table.backing table.size file
    ⊎ ((file ≡ file_name Table table.backing)
    × ((layer : KeyLayer) → IsBehind (bytes_of folder objects entries) table.backing table.size layer → MapsWithin table.view layer → ⊥))

abbrev pub IsAmong : {X : Type 0} → X → List X → Type 0
IsAmong x xs = (i : ℕ) × (i < length xs) × (x ≡ get_or xs i x)

abbrev pub IsShownAtFault : Folder → Objects → Entries → List TableView → List ℕ → Type 0
IsShownAtFault folder objects entries tables file = (table : TableView) × IsAmong table tables × IsTableAtFault folder objects entries table file

abbrev pub IsKeptAtFault : Folder → Objects → Entries → List CreatedItem → List ℕ → Type 0
IsKeptAtFault folder objects entries backings file =
    (backing : CreatedItem) × IsAmong backing backings × IsPlaceAtFault folder objects entries backing.number backing.size file

abbrev pub AreTablesAtFault : Folder → Objects → Entries → VersionView → List ℕ → Type 0
AreTablesAtFault folder objects entries version file =
    IsShownAtFault folder objects entries (all_tables version) file ⊎ IsKeptAtFault folder objects entries version.backings file

-- ---- the folder

-- where this is the current pointer: manifest, catalogue and log, or a number that isn't reserved, of the manifest or of an entry
pub data IsSaidAtFault (folder : Folder) (id : ℕ) (pointer : Pointer) (file : List ℕ) : Type 0 where
  OfManifest : IsManifestAtFault folder pointer.manifest file → IsSaidAtFault folder id pointer file
  OfOwnNumber : (version : VersionView) → SaysManifest folder pointer.manifest version → version.five.next ≤ pointer.manifest → file ≡ current_name
      → IsSaidAtFault folder id pointer file
  OfCatalogue : IsCatalogueAtFault folder pointer.catalogue id file → IsSaidAtFault folder id pointer file
  OfEntry : (version : VersionView) (entries : Entries) → SaysManifest folder pointer.manifest version → SaysEntries folder pointer.catalogue id entries
      → (All (λ entry. entry.0 < version.five.next) entries → ⊥) → file ≡ file_name Catalogue pointer.catalogue → IsSaidAtFault folder id pointer file
  OfLog : (version : VersionView) → SaysManifest folder pointer.manifest version → IsLogAtFault folder version.five.log version.five.flushed file
      → IsSaidAtFault folder id pointer file

-- and before that the current pointer, and behind it the tables, and an entry that stands
pub data IsAtFault (folder : Folder) (objects : Objects) (id : ℕ) (file : List ℕ) : Type 0 where
  OfPointer : (IsNew folder → ⊥) → ((pointer : Pointer) → HasPayloads folder current_name (λ list. SaysCurrent list pointer) → ⊥) → file ≡ current_name
      → IsAtFault folder objects id file
  OfWords : (pointer : Pointer) → HasPayloads folder current_name (λ list. SaysCurrent list pointer) → IsSaidAtFault folder id pointer file
      → IsAtFault folder objects id file
  OfTables : (said : Said) → IsRead folder id said → AreTablesAtFault folder objects said.entries said.version file → IsAtFault folder objects id file
  OfStanding : (said : Said) → IsRead folder id said → (said.entries ≡ [] → ⊥) → file ≡ file_name Catalogue said.pointer.catalogue
      → IsAtFault folder objects id file
