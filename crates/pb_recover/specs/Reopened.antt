-- What an opening may do to a folder: shut gates, remove files that its words don't name, and make a new store of a new folder.
use Rattle.std.specs.Prelude.{◌≡◌, ◌⊎◌, ℕ, true, List, None}
use Rattle.pb_devices.specs.Contents.{Contents, Folder, IsImage}
use Rattle.pb_names.specs.NumberedFile.{IsFileOf, IsNumberedFile}
use Rattle.pb_names.specs.Spelling.{current_name, file_name}
use Rattle.pb_names.specs.declared.file_kind.FileKind.{FileKind}
use Rattle.pb_names.specs.declared.file_kind.FileKind.TheVariants.{Manifest, Catalogue, Log, Table}
use Rattle.pb_gate_log.specs.NewFolder.{IsNew}
use Rattle.pb_folder.specs.Said.{Said, Says}
use Rattle.pb_folder.specs.Shown.{HaveOneList, is_named}
use Rattle.pb_recover.specs.First.{first_said}

-- ---- names

-- the name of a gate log: the current pointer, a manifest, a catalogue or a log
abbrev pub IsGateLog : List ℕ → Type 0
IsGateLog name = (name ≡ current_name) ⊎ ((kind : FileKind) × (kind ≡ Table → ⊥) × IsFileOf kind name)

-- a name of the folder's own: the current pointer's, or that of a numbered file
abbrev pub IsFolderName : List ℕ → Type 0
IsFolderName name = (name ≡ current_name) ⊎ IsNumberedFile name

-- the words name the numbered file, by its whole name: their manifest, catalogue and log, and what their version stores
pub data IsNamedBy (said : Said) (name : List ℕ) : Type 0 where
  IsManifest : name ≡ file_name Manifest said.pointer.manifest → IsNamedBy said name
  IsCatalogue : name ≡ file_name Catalogue said.pointer.catalogue → IsNamedBy said name
  IsLog : name ≡ file_name Log said.version.five.log → IsNamedBy said name
  IsTable : (number : ℕ) → is_named said number ≡ true → name ≡ file_name Table number → IsNamedBy said name

-- a numbered file that the folder's words don't name
pub record IsLeftover (id : ℕ) (folder : Folder) (name : List ℕ) : Type 0 where
  pub numbered : IsNumberedFile name
  pub said : Said
  pub says : Says folder id said
  pub unnamed : IsNamedBy said name → ⊥

-- ---- folders

-- what a sweep leaves of a name: what was there; a gate log with the list that it had; nothing of a leftover
pub data IsSweptAt (id : ℕ) (before now : Folder) (name : List ℕ) : Type 0 where
  Same : now name ≡ before name → IsSweptAt id before now name
  Relisted : IsGateLog name → HaveOneList (before name) (now name) → IsSweptAt id before now name
  Gone : IsLeftover id before name → now name ≡ None → IsSweptAt id before now name

abbrev pub IsSwept : ℕ → Folder → Folder → Type 0
IsSwept id before now = (name : List ℕ) → IsSweptAt id before now name

-- a new store is made of a new folder, or begun: only the current pointer and numbered files have changed
pub record IsBegun (id : ℕ) (before now : Folder) : Type 0 where
  pub new : IsNew before
  pub others : (name : List ℕ) → (name ≡ current_name → ⊥) → (IsNumberedFile name → ⊥) → now name ≡ before name
  pub made : IsNew now ⊎ Says now id first_said

-- ---- a disk

-- the folder is one of the images, swept, or a new store made of it
pub record IsReopened (id : ℕ) (images : Folder → Type 0) (now : Folder) : Type 0 where
  pub folder : Folder
  pub image : images folder
  pub left : IsSwept id folder now ⊎ IsBegun id folder now

abbrev pub Reopens : ℕ → Contents → Contents → Type 0
Reopens id old new = (folder : Folder) → IsImage new folder → IsReopened id (IsImage old) folder
