-- What an opening finds in a folder, and what it leaves there.
use Rattle.std.specs.Prelude.{◌≡◌, ℕ, ◌<◌, ◌≤◌, ◌⊎◌, List, Option, None, IsSome}
use Rattle.pb_devices.specs.Contents.{Contents, Folder, KeptBut, MayLeave}
use Rattle.pb_gate_log.specs.NewFolder.{IsNew}
use Rattle.pb_gate_log.specs.Payloads.{HasList, HasPayloads}
use Rattle.pb_names.specs.Spelling.{current_name}
use Rattle.pb_payloads.specs.Current.{Pointer, SaysCurrent}
use Rattle.pb_version.specs.Version.{VersionView}
use Rattle.pb_version.specs.SaysVersion.{SaysVersion}
use Rattle.pb_manifest.specs.Manifest.{catalogue_name, manifest_name}

abbrev pub Names : Pointer → Folder → Type 0
Names pointer folder = HasPayloads folder current_name (λ list. SaysCurrent list pointer)

-- ---- the two files that are named

abbrev pub AreThere : ℕ → ℕ → Folder → Type 0
AreThere number catalogue folder = IsSome (folder (manifest_name number)) × IsSome (folder (catalogue_name catalogue))

abbrev pub Says : ℕ → VersionView → Folder → Type 0
Says number version folder = HasPayloads folder (manifest_name number) (λ list. SaysVersion list version)

-- the catalogue is there, the manifest says the version, and its number is reserved in it
pub record HasVersion (number catalogue : ℕ) (version : VersionView) (folder : Folder) : Type 0 where
  pub there : IsSome (folder (catalogue_name catalogue))
  pub says : Says number version folder
  pub own : number < version.five.next

-- ---- damage

-- there is a last payload of the current pointer, and it names no two files
abbrev pub NamesNoFiles : Folder → Type 0
NamesNoFiles folder = (IsNew folder → ⊥) × ((pointer : Pointer) → Names pointer folder → ⊥)

abbrev pub IsLacking : ℕ → ℕ → Folder → Type 0
IsLacking number catalogue folder = (folder (manifest_name number) ≡ None) ⊎ (folder (catalogue_name catalogue) ≡ None)

abbrev pub IsUnfolded : ℕ → Folder → Type 0
IsUnfolded number folder = (version : VersionView) → Says number version folder → ⊥

abbrev pub IsUnreserved : ℕ → Folder → Type 0
IsUnreserved number folder = (version : VersionView) × Says number version folder × (version.five.next ≤ number)

-- what is amiss with the two files that are named, by the file that is told: absent files come first
abbrev pub IsDamagedAt : ℕ → ℕ → Folder → List ℕ → Type 0
IsDamagedAt number catalogue folder file =
    ((file ≡ current_name) × (IsLacking number catalogue folder ⊎ (AreThere number catalogue folder × IsUnreserved number folder)))
    ⊎ ((file ≡ manifest_name number) × (AreThere number catalogue folder × IsUnfolded number folder))

-- which file is damaged
abbrev pub IsDamaged : Folder → List ℕ → Type 0
IsDamaged folder file =
    ((file ≡ current_name) × NamesNoFiles folder)
    ⊎ ((pointer : Pointer) × Names pointer folder × IsDamagedAt pointer.manifest pointer.catalogue folder file)

-- ---- what an opening leaves

-- the current pointer, or the manifest that it names
abbrev pub IsNamed : List ℕ → Folder → Type 0
IsNamed name folder = (name ≡ current_name) ⊎ ((pointer : Pointer) × Names pointer folder × (name ≡ manifest_name pointer.manifest))

-- each other name is kept
abbrev pub KeepsUnnamed : Contents → Contents → Type 0
KeepsUnnamed old new = KeptBut (λ name. IsNamed name old.seen) old new

-- an image is what reads gave, or has the same payloads
abbrev pub KeepsPayloadsOf : Option (List ℕ) → Option (List ℕ) → Type 0
KeepsPayloadsOf seen image = (image ≡ seen) ⊎ ((list : List (List ℕ)) × HasList list seen × HasList list image)

abbrev pub KeepsPayloads : Contents → Contents → Type 0
KeepsPayloads old new = (name : List ℕ) (image : Option (List ℕ)) → MayLeave new name image → KeepsPayloadsOf (old.seen name) image
