-- What stands between the calls of a creation and of an opening.
use Rattle.std.specs.Prelude.{◌≡◌, ◌⊎◌, List, Option, ℕ}
use Rattle.pb_devices.specs.Contents.{Contents, Folder, KeepsOthers, MayLeave}
use Rattle.pb_gate_log.specs.Calls.{IsOpened}
use Rattle.pb_gate_log.specs.EachLog.{LogPlace, EachLog}
use Rattle.pb_manifest.specs.Found.{AreThere, IsLacking, IsUnfolded, IsUnreserved, KeepsPayloadsOf}
use Rattle.pb_manifest.specs.Manifest.{manifest_name}
use Rattle.pb_names.specs.Spelling.{current_name}
use Rattle.pb_payloads.specs.Current.{Pointer, SaysCurrent, pointer_to}

-- the log of this file, with these payloads
pub record IsLogOf (file : List ℕ) (list : List (List ℕ)) (log : LogPlace) (disk : Contents) : Type 0 where
  pub name : log.file ≡ file
  pub each : EachLog log list disk

-- a log is opened where it is there, whether that succeeds or fails: each image has the payloads that reads gave
pub record OpensIfThere (file : List ℕ) (old new : Contents) : Type 0 where
  pub crash : (image : Option (List ℕ)) → MayLeave new file image → KeepsPayloadsOf (old.seen file) image
  pub others : KeepsOthers old new file

-- the log of the current pointer was opened, and the two files that its last payload names are there
pub record IsFound (current : LogPlace) (number catalogue : ℕ) (old new : Contents) : Type 0 where
  pub payloads : List (List ℕ)
  pub opened : IsOpened current_name payloads current old new
  pub names : SaysCurrent payloads (pointer_to number catalogue)
  pub there : AreThere number catalogue old.seen

-- the last of these payloads of the current pointer names no two files, or one that isn't there
abbrev pub IsLost : List (List ℕ) → Folder → Type 0
IsLost payloads folder =
    ((pointer : Pointer) → SaysCurrent payloads pointer → ⊥)
    ⊎ ((pointer : Pointer) × SaysCurrent payloads pointer × IsLacking pointer.manifest pointer.catalogue folder)

-- a manifest that is there says no version, or one in which its own number isn't reserved, by the file that is told
abbrev pub IsUnread : ℕ → Folder → List ℕ → Type 0
IsUnread number folder file =
    ((file ≡ current_name) × IsUnreserved number folder) ⊎ ((file ≡ manifest_name number) × IsUnfolded number folder)
