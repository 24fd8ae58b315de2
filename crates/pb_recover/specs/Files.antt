-- The files of an open store: its parts that stand in files, and what its disk holds of them.
use Rattle.std.specs.Prelude.{◌≡◌, ◌⊎◌, ℕ, ◌<◌, ◌≤◌, ◌^◌, true, List, [], map, Option, None, All}
use Rattle.std.specs.List.{Contains}
use Rattle.pb_devices.specs.Contents.{Contents, MayLeave}
use Rattle.pb_names.specs.Spelling.{current_name, file_name}
use Rattle.pb_names.specs.declared.file_kind.FileKind.{FileKind}
use Rattle.pb_names.specs.declared.file_kind.FileKind.TheVariants.{Catalogue, Log, Table}
use Rattle.pb_payloads.specs.Catalogue.{stands}
use Rattle.pb_payloads.specs.Current.{pointer_to}
use Rattle.pb_payloads.specs.Log.{LogEntry, SaysLog}
use Rattle.pb_gate_log.specs.EachLog.{LogPlace, EachLog}
use Rattle.pb_rows.specs.Changing.{Changing}
use Rattle.pb_rows.specs.Layer.{KeyLayer}
use Rattle.pb_version.specs.Version.{VersionView, all_tables}
use Rattle.pb_folder.specs.Meaning.{changing_of, said_count}
use Rattle.pb_folder.specs.Said.{Said}
use Rattle.pb_manifest.specs.Manifest.{EachManifest, ManifestView, catalogue_name, manifest_name}
use Rattle.pb_manifest.specs.Numbers.{IsFolded}
use Rattle.pb_catalog.specs.Catalog.{EachCatalogue}
use Rattle.pb_provider.specs.Provider.{ProviderView}

-- the manifest with its version, the catalogue with the store's id, the log with the commands that are in no table yet, the
-- newest last, and how many commands were accepted; and the numbers that a command under way has drawn and put in no file yet
pub record StoreFiles : Type 0 where
  pub manifest : ManifestView
  pub version : VersionView
  pub provider : ProviderView
  pub log : LogPlace
  pub commands : List Changing
  pub accepted : ℕ
  pub unmade : List ℕ

abbrev pub with_unmade : List ℕ → StoreFiles → StoreFiles
with_unmade unmade files = record files { unmade = unmade }

-- what the folder says, where these are the entries of its log
abbrev pub said_of : StoreFiles → List LogEntry → Said
said_of files entries = record {
  pointer = pointer_to files.manifest.number files.manifest.catalogue;
  version = files.version;
  entries = files.provider.catalogue.entries;
  log = entries;
}

-- the entries of a log are these commands, whichever layers its ingests apply
abbrev pub AreCommands : List LogEntry → List Changing → Type 0
AreCommands entries commands = (layers : ℕ → KeyLayer) → map (λ entry. changing_of layers entry.command) entries ≡ commands

-- the number is drawn by nobody yet, or in no file yet. Names are told apart below 2^64, and numbers end below 2^62
abbrev pub IsFree : StoreFiles → ℕ → Type 0
IsFree files n = ((files.manifest.next ≤ n) × (n < 2 ^ 62)) ⊎ Contains files.unmade n

-- what of it isn't the log's: the manifest and the catalogue are at rest, and neither a number nor an entry clashes with a file
pub record KeepsBeside (files : StoreFiles) (disk : Contents) : Type 0 where
  pub manifest : EachManifest files.manifest files.version disk
  pub catalogue : EachCatalogue files.provider.catalogue disk
  pub catalogue_file : files.provider.catalogue.log.file ≡ catalogue_name files.manifest.catalogue
  pub entered : All (λ entry. entry.0 < files.version.five.next) files.provider.catalogue.entries
  -- no file of a manifest, a log or a table has a free number, in reads and in any image
  pub fresh : (kind : FileKind) (n : ℕ) (image : Option (List ℕ)) → (kind ≡ Catalogue → ⊥) → IsFree files n
      → MayLeave disk (file_name kind n) image → image ≡ None
  -- no table file stands beside an entry of its number
  pub apart : (n : ℕ) (image : Option (List ℕ)) → stands n files.provider.catalogue.entries ≡ true
      → MayLeave disk (file_name Table n) image → image ≡ None

-- the condition and the promise of each call of an open store that takes a disk; no bucket in it
pub record KeepsFiles (files : StoreFiles) (disk : Contents) : Type 0 where
  pub beside : KeepsBeside files disk
  pub payloads : List (List ℕ)
  pub entries : List LogEntry
  pub log : EachLog files.log payloads disk
  pub log_file : files.log.file ≡ file_name Log files.version.five.log
  pub says_log : SaysLog files.version.five.flushed payloads entries
  pub commands : AreCommands entries files.commands
  pub count : files.accepted ≡ said_count (said_of files entries)

-- what holds of the parts of every open store, with no device in it. Numbers and ranks are below the number that is drawn
-- next, and not only below the reserved ones: so a number that is drawn is new
pub record IsReady (files : StoreFiles) : Type 0 where
  pub folded : IsFolded files.version
  pub own : files.manifest.number < files.manifest.next
  pub log : files.version.five.log < files.manifest.next
  pub tables : All (λ table. (table.number < files.manifest.next) × (table.rank < files.manifest.next)) (all_tables files.version)
  pub backings : All (λ backing. backing.number < files.manifest.next) files.version.backings
  pub unmade : All (λ n. n < files.manifest.next) files.unmade
  pub next : files.manifest.next ≤ files.version.five.next
  pub count : files.version.five.accepted ≤ files.accepted
  pub low : files.accepted < 2 ^ 62
  -- no entry stands yet
  pub bare : files.provider.catalogue.entries ≡ []

-- ---- one file that changes

-- the name is that of no log of the store: neither the current pointer, nor the manifest, the catalogue and the log
pub record IsNoLog (files : StoreFiles) (name : List ℕ) : Type 0 where
  pub current : name ≡ current_name → ⊥
  pub manifest : name ≡ manifest_name files.manifest.number → ⊥
  pub catalogue : name ≡ catalogue_name files.manifest.catalogue → ⊥
  pub log : name ≡ file_name Log files.version.five.log → ⊥

-- the name is neither that of a file with a free number, nor that of a table file with an entry's
pub record IsUnclaimed (files : StoreFiles) (name : List ℕ) : Type 0 where
  pub free : (kind : FileKind) (n : ℕ) → (kind ≡ Catalogue → ⊥) → IsFree files n → name ≡ file_name kind n → ⊥
  pub entered : (n : ℕ) → stands n files.provider.catalogue.entries ≡ true → name ≡ file_name Table n → ⊥

-- a power cut leaves no file of this name
abbrev pub IsAbsent : Contents → List ℕ → Type 0
IsAbsent disk name = (image : Option (List ℕ)) → MayLeave disk name image → image ≡ None
