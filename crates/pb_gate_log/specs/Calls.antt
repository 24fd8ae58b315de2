-- What each call leaves of a log's file, and of all others.
use Rattle.std.specs.Prelude.{◌≡◌, ℕ, List, [], ◌∷◌, ◌++◌, ◌⊎◌, Option, Result, OnErr, OnOk}
use Rattle.pb_devices.specs.BeforeOrAfter.{IsBeforeOrAfter}
use Rattle.pb_devices.specs.Contents.{Contents, MayLeave, KeepsOthers}
use Rattle.pb_gate_log.specs.EachLog.{LogPlace, EachLog, EachHas}
use Rattle.pb_gate_log.specs.Payloads.{HasList, payloads_in}

-- a payload is appended, or it isn't, and each image has the list or the list and the payload
pub record Appends (log log' : LogPlace) (payload : List ℕ) (old new : Contents) {T E : Type 0} (result : Result T E) : Type 0 where
  pub file : log'.file ≡ log.file
  pub same : OnErr result (log' ≡ log)
  pub ok : (list : List (List ℕ)) → EachLog log list old → OnOk result (EachLog log' (list ++ payload ∷ []) new)
  pub crash : (list : List (List ℕ)) (image : Option (List ℕ)) → EachLog log list old → MayLeave new log.file image
      → IsBeforeOrAfter (λ l. HasList l image) list (list ++ payload ∷ [])
  pub others : KeepsOthers old new log.file

-- a log is made, whether that succeeds or fails: each image was one before, or is a log with no payload
pub record Makes (file : List ℕ) (old new : Contents) : Type 0 where
  pub crash : (image : Option (List ℕ)) → MayLeave new file image → MayLeave old file image ⊎ HasList [] image
  pub others : KeepsOthers old new file

-- a log is opened, whether that succeeds or fails: each image has the list that reads gave
pub record Opens (file : List ℕ) (old new : Contents) : Type 0 where
  pub crash : (list : List (List ℕ)) → HasList list (old.seen file) → EachHas list new file
  pub others : KeepsOthers old new file

-- the log that was opened, and its payloads
pub record IsOpened (file : List ℕ) (list : List (List ℕ)) (log : LogPlace) (old new : Contents) : Type 0 where
  pub name : log.file ≡ file
  pub had : HasList list (old.seen file)
  pub each : EachLog log list new

-- a log is opened, or made where there is none, whether that succeeds or fails
pub record OpensOrMakes (file : List ℕ) (old new : Contents) : Type 0 where
  pub crash : (image : Option (List ℕ)) → MayLeave new file image → payloads_in image ≡ payloads_in (old.seen file)
  pub others : KeepsOthers old new file

-- the log that was opened or made, and its payloads
pub record IsOpenedOrMade (file : List ℕ) (list : List (List ℕ)) (log : LogPlace) (old new : Contents) : Type 0 where
  pub name : log.file ≡ file
  pub had : list ≡ payloads_in (old.seen file)
  pub each : EachLog log list new
