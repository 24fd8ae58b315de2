-- What the folder of a driven disk may hold after so many of its steps.
use Rattle.std.specs.Prelude.{◌≡◌, ℕ, ◌+◌, List, [], Option, None, take}
use Rattle.pb_devices.specs.BeforeOrAfter.{IsBeforeOrAfter}
use Rattle.pb_devices.specs.Contents.{Contents, Folder, IsImage, MayLeave}
use Rattle.pb_gate_log.specs.NewFolder.{IsNew}
use Rattle.pb_gate_log.specs.Payloads.{payloads_in}
use Rattle.pb_names.specs.Spelling.{current_name, file_name}
use Rattle.pb_names.specs.declared.file_kind.FileKind.TheVariants.{Manifest}

-- a power cut leaves no file under this name
abbrev pub NeverStood : Contents → List ℕ → Type 0
NeverStood disk name = (image : Option (List ℕ)) → MayLeave disk name image → image ≡ None

-- a file has the first so many of these payloads, or one more
abbrev pub HasFirst : List (List ℕ) → ℕ → Option (List ℕ) → Type 0
HasFirst payloads done file = IsBeforeOrAfter (λ list. payloads_in file ≡ list) (take done payloads) (take (done + 1) payloads)

-- there is no manifest 1, and each image of the folder is new
pub record IsUnmade (disk : Contents) : Type 0 where
  pub absent : disk.seen (file_name Manifest 1) ≡ None
  pub new : (folder : Folder) → IsImage disk folder → IsNew folder
  pub pointless : payloads_in (disk.seen current_name) ≡ []
