-- A gate log on a disk.
use Rattle.std.specs.Prelude.{◌≡◌, ℕ, List, length, Option, Some, IsSomeAnd}
use Rattle.pb_devices.specs.Contents.{Contents, MayLeave, IsSettled}
use Rattle.pb_gate_log.specs.Payloads.{HasList}
use Rattle.pb_gate_log.specs.LogFile.{IsLogFile}

-- the file, the place of its last gate, and its length
pub record LogPlace : Type 0 where
  pub file : List ℕ
  pub gate : ℕ
  pub len : ℕ

-- what reads give is the log of this list, whose last gate stands at its place, and so is whatever a power cut may leave
pub record EachLog (log : LogPlace) (list : List (List ℕ)) (disk : Contents) : Type 0 where
  pub seen : IsSomeAnd (disk.seen log.file) (IsLogFile log.gate list)
  pub images : (image : Option (List ℕ)) → MayLeave disk log.file image → IsSomeAnd image (IsLogFile log.gate list)
  -- nothing of the file is pending, so the next write that is synced is there to stay
  pub settled : IsSettled disk log.file
  -- reads give as many bytes as the log tells. An image may have another length: nothing is said of it
  pub sized : (bytes : List ℕ) → disk.seen log.file ≡ Some bytes → length bytes ≡ log.len

-- whatever a power cut may leave of the file stands for this list
abbrev pub EachHas : List (List ℕ) → Contents → List ℕ → Type 0
EachHas list disk file = (image : Option (List ℕ)) → MayLeave disk file image → HasList list image
