-- A manifest over a folder: which version the folder's files say.
use Rattle.std.specs.Prelude.{◌≡◌, ℕ, ◌<◌, ◌≤◌, ◌⊎◌, List, [], ◌∷◌, length}
use Rattle.pb_devices.specs.BeforeOrAfter.{IsBeforeOrAfter}
use Rattle.pb_devices.specs.Contents.{Contents, Folder, IsImage, KeptBut}
use Rattle.pb_gate_log.specs.EachLog.{LogPlace, EachLog}
use Rattle.pb_gate_log.specs.Payloads.{HasPayloads}
use Rattle.pb_names.specs.Spelling.{current_name, file_name}
use Rattle.pb_names.specs.declared.file_kind.FileKind.TheVariants.{Manifest, Catalogue}
use Rattle.pb_payloads.specs.Current.{SaysCurrent, pointer_to}
use Rattle.pb_version.specs.Version.{VersionView}
use Rattle.pb_version.specs.SaysVersion.{SaysVersion}

-- the numbers of the manifest and of the catalogue, the number that is drawn next, the length of the manifest's first payload,
-- and the two logs that are open
pub record ManifestView : Type 0 where
  pub number : ℕ
  pub catalogue : ℕ
  pub next : ℕ
  pub first : ℕ
  pub log : LogPlace
  pub current : LogPlace

pub record IsNumbered (number catalogue next : ℕ) (manifest : ManifestView) : Type 0 where
  pub number_is : manifest.number ≡ number
  pub catalogue_is : manifest.catalogue ≡ catalogue
  pub next_is : manifest.next ≡ next

abbrev pub manifest_name : ℕ → List ℕ
manifest_name number = file_name Manifest number

abbrev pub catalogue_name : ℕ → List ℕ
catalogue_name number = file_name Catalogue number

-- the length of the first of these payloads
abbrev pub first_len : List (List ℕ) → ℕ
first_len [] = 0
first_len (payload ∷ others) = length payload

-- the files of a folder say this version: the last payload of the current pointer names the two files, and the manifest is
-- there, with payloads that are edits and fold to the version
pub record SaysFolder (number catalogue : ℕ) (version : VersionView) (folder : Folder) : Type 0 where
  pub current : HasPayloads folder current_name (λ list. SaysCurrent list (pointer_to number catalogue))
  pub manifest : HasPayloads folder (manifest_name number) (λ list. SaysVersion list version)

-- reads and every image of the folder say this version, and nothing of the two files is pending
pub record EachManifest (manifest : ManifestView) (version : VersionView) (disk : Contents) : Type 0 where
  pub pointers : List (List ℕ)
  pub current : EachLog manifest.current pointers disk
  pub current_file : manifest.current.file ≡ current_name
  pub names : SaysCurrent pointers (pointer_to manifest.number manifest.catalogue)
  pub edits : List (List ℕ)
  pub log : EachLog manifest.log edits disk
  pub log_file : manifest.log.file ≡ manifest_name manifest.number
  pub says : SaysVersion edits version
  pub first_is : manifest.first ≡ first_len edits
  -- each number that was drawn is reserved, and so is the manifest's own
  pub drawn : manifest.next ≤ version.five.next
  pub own : manifest.number < version.five.next

-- each name but these two is kept
abbrev pub KeepsAllBut : Contents → Contents → List ℕ → List ℕ → Type 0
KeepsAllBut old new one two = KeptBut (λ other. (other ≡ one) ⊎ (other ≡ two)) old new

-- each image says the one version or the other
abbrev pub EachSays : ℕ → ℕ → VersionView → VersionView → Contents → Type 0
EachSays number catalogue one other disk =
    (folder : Folder) → IsImage disk folder → IsBeforeOrAfter (λ version. SaysFolder number catalogue version folder) one other
