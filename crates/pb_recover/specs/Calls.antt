-- What stands between the steps of an opening.
use Rattle.std.specs.Prelude.{◌≡◌, ◌⊎◌, ◌<◌, ℕ, List, [], Option, Some, None}
use Rattle.pb_devices.specs.Contents.{Contents, Folder, IsImage, IsSettled, KeptBut, MayLeave}
use Rattle.pb_edit.specs.Edit.{VersionEdit}
use Rattle.pb_names.specs.NumberedFile.{IsNumberedFile}
use Rattle.pb_names.specs.Spelling.{file_name}
use Rattle.pb_names.specs.declared.file_kind.FileKind.TheVariants.{Log}
use Rattle.pb_payloads.specs.Current.{pointer_to}
use Rattle.pb_payloads.specs.Log.{LogEntry, IsEntry, SaysLog, entry_spelling, last_count}
use Rattle.pb_gate_log.specs.EachLog.{EachLog, LogPlace}
use Rattle.pb_gate_log.specs.NewFolder.{IsNew}
use Rattle.pb_rows.specs.Changing.{Changing}
use Rattle.pb_version.specs.Version.{VersionView}
use Rattle.pb_catalog.specs.declared.error.CatalogError.{CatalogError}
use Rattle.pb_catalog.specs.declared.error.CatalogError.TheVariants as catalog_error
use Rattle.pb_manifest.specs.declared.error.ManifestError.{ManifestError}
use Rattle.pb_manifest.specs.declared.error.ManifestError.TheVariants as manifest_error
use Rattle.pb_reply.specs.declared.refusal.Refusal.{Refusal}
use Rattle.pb_reply.specs.declared.refusal.Refusal.TheVariants as refusal
use Rattle.pb_folder.specs.Meaning.{said_count}
use Rattle.pb_folder.specs.Said.{Said, Says}
use Rattle.pb_manifest.specs.Manifest.{EachManifest, ManifestView, catalogue_name}
use Rattle.pb_catalog.specs.Catalog.{EachCatalogue}
use Rattle.pb_provider.specs.Provider.{ProviderView, stages_of}
use Rattle.pb_recover.specs.declared.open_error.OpenError.{OpenError}
use Rattle.pb_recover.specs.declared.open_error.OpenError.TheVariants as open_error
use Rattle.pb_recover.specs.Files.{AreCommands, IsReady, StoreFiles, said_of}
use Rattle.pb_recover.specs.First.{first_said}
use Rattle.pb_recover.specs.Reopened.{IsNamedBy}

-- ---- errors

-- the disk failed
abbrev pub IsOpenFault : OpenError → Type 0
IsOpenFault open_error.Disk = Unit {0}
IsOpenFault (open_error.WrongStore other) = ⊥
IsOpenFault (open_error.Damaged file) = ⊥
IsOpenFault open_error.NoMemory = ⊥

-- the disk failed, or there was no memory
abbrev pub IsNoVerdict : OpenError → Type 0
IsNoVerdict error = (error ≡ open_error.Disk) ⊎ (error ≡ open_error.NoMemory)

abbrev pub of_manifest_error : ManifestError → OpenError
of_manifest_error manifest_error.Disk = open_error.Disk
of_manifest_error (manifest_error.Damaged file) = open_error.Damaged file
of_manifest_error manifest_error.NoMemory = open_error.NoMemory

-- of the catalogue in this file
abbrev pub of_catalog_error : List ℕ → CatalogError → OpenError
of_catalog_error file catalog_error.Disk = open_error.Disk
of_catalog_error file (catalog_error.WrongStore other) = open_error.WrongStore other
of_catalog_error file catalog_error.Damaged = open_error.Damaged file
of_catalog_error file catalog_error.NoMemory = open_error.NoMemory

abbrev pub refusal_of : OpenError → Refusal
refusal_of open_error.Disk = refusal.DiskFault
refusal_of (open_error.WrongStore other) = refusal.WrongStore other
refusal_of (open_error.Damaged file) = refusal.Damaged file
refusal_of open_error.NoMemory = refusal.NoMemory

-- ---- states

-- what reads give is durable, and a power cut leaves nothing else
abbrev pub IsCalm : Contents → Type 0
IsCalm disk = (name : List ℕ) → IsSettled disk name

-- the payload is this entry, whose count is above the last one
pub record IsNext (last : ℕ) (payload : List ℕ) (entry : LogEntry) : Type 0 where
  pub in_form : IsEntry entry
  pub spelled : payload ≡ entry_spelling entry
  pub rise : last < entry.count

-- the payloads of a log are these commands, and the last of them has this count
pub record IsReplayed (flushed : ℕ) (payloads : List (List ℕ)) (commands : List Changing) (last : ℕ) : Type 0 where
  pub entries : List LogEntry
  pub says : SaysLog flushed payloads entries
  pub commands_are : AreCommands entries commands
  pub last_is : last ≡ last_count flushed entries

-- the log of this number is at rest, with these commands
pub record IsLogRead (number flushed : ℕ) (log : LogPlace) (commands : List Changing) (last : ℕ) (disk : Contents) : Type 0 where
  pub payloads : List (List ℕ)
  pub each : EachLog log payloads disk
  pub file_is : log.file ≡ file_name Log number
  pub replayed : IsReplayed flushed payloads commands last

-- the parts of a store that was read
abbrev pub files_of : ManifestView → VersionView → ProviderView → LogPlace → List Changing → ℕ → StoreFiles
files_of manifest version provider log commands accepted = record {
  manifest = manifest;
  version = version;
  provider = provider;
  log = log;
  commands = commands;
  accepted = accepted;
  unmade = [];
}

-- the manifest, the catalogue and the log are at rest, and say what the parts are
pub record AreAtRest (files : StoreFiles) (disk : Contents) : Type 0 where
  pub manifest : EachManifest files.manifest files.version disk
  pub catalogue : EachCatalogue files.provider.catalogue disk
  pub catalogue_file : files.provider.catalogue.log.file ≡ catalogue_name files.manifest.catalogue
  pub bare : files.provider.catalogue.entries ≡ []
  pub payloads : List (List ℕ)
  pub entries : List LogEntry
  pub log : EachLog files.log payloads disk
  pub log_file : files.log.file ≡ file_name Log files.version.five.log
  pub says_log : SaysLog files.version.five.flushed payloads entries
  pub commands : AreCommands entries files.commands
  pub count : files.accepted ≡ said_count (said_of files entries)

-- the catalogue, or the log
abbrev pub IsCatalogueOrLog : ℕ → ℕ → List ℕ → Type 0
IsCatalogueOrLog catalogue log name = (name ≡ catalogue_name catalogue) ⊎ (name ≡ file_name Log log)

-- ---- a sweep

-- words with this manifest, this catalogue and this version
abbrev pub words_of : ℕ → ℕ → VersionView → Said
words_of manifest catalogue version = record {
  pointer = pointer_to manifest catalogue;
  version = version;
  entries = [];
  log = [];
}

-- a numbered file that such words don't name
pub record IsUnnamed (manifest catalogue : ℕ) (version : VersionView) (name : List ℕ) : Type 0 where
  pub numbered : IsNumberedFile name
  pub unnamed : IsNamedBy (words_of manifest catalogue version) name → ⊥

-- files of such names were removed, whether that succeeded or failed, and nothing else
pub record Removes (IsGone : List ℕ → Type 0) (old new : Contents) : Type 0 where
  pub others : KeptBut IsGone old new
  pub crash : (name : List ℕ) (image : Option (List ℕ)) → MayLeave new name image
      → MayLeave old name image ⊎ ((image ≡ None) × IsGone name)
  -- and none came back
  pub absent : (name : List ℕ) → old.seen name ≡ None → new.seen name ≡ None

-- and each of them
abbrev pub AreGone : (List ℕ → Type 0) → Contents → Type 0
AreGone IsGone disk = (name : List ℕ) → IsGone name → disk.seen name ≡ None

-- ---- a new store

-- the edit that makes the first version
abbrev pub first_edit : VersionEdit
first_edit = record {
  accepted = Some 0;
  next = Some 64;
  log = Some 3;
  flushed = Some 0;
  format = Some 1;
  deleted = [];
  physical = [];
  virtuals = [];
  created = [];
  removed = [];
}

-- each image is that of a new folder, or says what a new store does
abbrev pub IsMaking : ℕ → Contents → Type 0
IsMaking id disk = (folder : Folder) → IsImage disk folder → IsNew folder ⊎ Says folder id first_said

-- ---- what was opened

-- of the store with this id: it is ready, each entry has the stage that the version gives it, and nothing is begun
pub record IsOpenedOf (id : ℕ) (files : StoreFiles) : Type 0 where
  pub ready : IsReady files
  pub stages : files.provider.stages ≡ stages_of files.version files.provider.catalogue.entries
  pub begun : files.provider.begun ≡ []
  pub own : files.provider.catalogue.id ≡ id
