-- What a folder says after so many steps of a manifest: it is made of one edit, a second is committed, and numbers are drawn.
use Rattle.std.specs.Prelude.{ℕ, zero, suc, ◌⊎◌}
use Rattle.pb_devices.specs.BeforeOrAfter.{IsBeforeOrAfter}
use Rattle.pb_devices.specs.Contents.{Folder}
use Rattle.pb_edit.specs.Edit.{VersionEdit}
use Rattle.pb_gate_log.specs.NewFolder.{IsNew}
use Rattle.pb_manifest.specs.Manifest.{SaysFolder}
use Rattle.pb_manifest.specs.Numbers.{OnlyReserves}
use Rattle.pb_version.specs.Edited.{edited}
use Rattle.pb_version.specs.Version.{VersionView, empty_version}

-- the manifest 1 and the catalogue 2 are named, and the manifest says this version
abbrev pub Says : VersionView → Folder → Type 0
Says version folder = SaysFolder 1 2 version folder

-- the version after the two edits, perhaps with more numbers reserved
pub record SaysReserved (version : VersionView) (folder : Folder) : Type 0 where
  pub reserved : VersionView
  pub only : OnlyReserves version reserved
  pub says : Says reserved folder

abbrev pub after_first : VersionEdit → VersionView
after_first first = edited empty_version first

abbrev pub after_both : VersionEdit → VersionEdit → VersionView
after_both first second = edited (after_first first) second

-- the folder after so many acknowledged steps: as it is then, or with one step more
abbrev pub SaysAfter : VersionEdit → VersionEdit → ℕ → Folder → Type 0
SaysAfter first second zero folder = IsNew folder ⊎ Says (after_first first) folder
SaysAfter first second (suc zero) folder = IsBeforeOrAfter (λ version. Says version folder) (after_first first) (after_both first second)
SaysAfter first second (suc (suc more)) folder = SaysReserved (after_both first second) folder
