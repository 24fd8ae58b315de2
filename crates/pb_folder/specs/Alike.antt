-- Another folder, or another bucket, with the same of all that is named.
use Rattle.std.specs.Prelude.{◌≡◌, ℕ, List, All}
use Rattle.std.specs.FinMap.{get}
use Rattle.pb_devices.specs.Contents.{Folder}
use Rattle.pb_devices.specs.Objects.{Objects}
use Rattle.pb_names.specs.Spelling.{current_name, file_name}
use Rattle.pb_names.specs.declared.file_kind.FileKind.TheVariants.{Manifest, Catalogue, Log, Table}
use Rattle.pb_payloads.specs.Catalogue.{Entries}
use Rattle.pb_payloads.specs.Log.{waiting_in}
use Rattle.pb_gate_log.specs.Payloads.{HasList}
use Rattle.pb_version.specs.Stored.{stored_in}
use Rattle.pb_version.specs.Version.{VersionView}
use Rattle.pb_folder.specs.Said.{Said}
use Rattle.pb_folder.specs.Held.{named_objects}

-- the gate log of this name has the same list in the other folder
abbrev pub KeepsList : Folder → Folder → List ℕ → Type 0
KeepsList one other name = (list : List (List ℕ)) → HasList list (one name) → HasList list (other name)

abbrev pub SameTable : Folder → Folder → ℕ → Type 0
SameTable one other number = other (file_name Table number) ≡ one (file_name Table number)

-- what the words name is the same in the other folder: the list of each gate log, and the bytes of each local file
pub record Alike (said : Said) (one other : Folder) : Type 0 where
  pub current : KeepsList one other current_name
  pub manifest : KeepsList one other (file_name Manifest said.pointer.manifest)
  pub catalogue : KeepsList one other (file_name Catalogue said.pointer.catalogue)
  pub log : KeepsList one other (file_name Log said.version.five.log)
  pub stored : All (λ item. SameTable one other item.number) (stored_in said.version)
  pub waiting : All (λ table. SameTable one other table.number) (waiting_in said.log)

-- each object that the entries give for what the version stores has the same bytes in the other bucket
abbrev pub AlikeObjects : Entries → VersionView → Objects → Objects → Type 0
AlikeObjects entries version one other = All (λ name. get other name ≡ get one name) (named_objects entries version)
