-- What stands in the file between the device calls of one call.
use Rattle.std.specs.Prelude.{◌≡◌, ℕ, ◌+◌, ◌<◌, ◌≤◌, ◌⊎◌, max, false, List, [], ◌∷◌, ◌++◌, length, take, drop, Option, Some, IsSomeAnd, All, Result, OnErr, OnOk}
use Rattle.pb_bytes.specs.BigEndian.{be32}
use Rattle.pb_devices.specs.Contents.{Contents, MayLeave, KeepsOthers}
use Rattle.pb_devices.specs.DiskCalls.{over}
use Rattle.pb_gate_log.specs.Payloads.{max_payload, begins_entry}
use Rattle.pb_gate_log.specs.LogFile.{written, IsLogFile}

-- the bytes of a range may be any, and the file ends anywhere between its old end and that of the range
pub record Torn (from to : ℕ) (old new : List ℕ) : Type 0 where
  pub before : take from new ≡ take from old
  pub after : drop to new ≡ drop to old
  pub no_shorter : length old ≤ length new
  pub no_longer : length new ≤ max (length old) to

-- the file has these bytes, and they are durable. Its creation may still be pending
pub record IsDurable (bytes : List ℕ) (disk : Contents) (name : List ℕ) : Type 0 where
  pub seen : disk.seen name ≡ Some bytes
  pub durable : disk.durable name ≡ bytes
  pub whole : (at : ℕ) → disk.pending name at → ⊥

-- these bytes are durable, and nothing is pending but writes within a range
pub record IsPending (bytes : List ℕ) (from to : ℕ) (disk : Contents) (name : List ℕ) : Type 0 where
  pub seen : IsSomeAnd (disk.seen name) (λ now. length now ≤ max (length bytes) to)
  pub durable : disk.durable name ≡ bytes
  pub within : (at : ℕ) → disk.pending name at → (from ≤ at) × (at < to)

-- behind the last gate stands an entry's length, its payload and its own shut gate, all of it durable
pub record IsStaged (start : List ℕ) (gate : ℕ) (payload : List ℕ) (disk : Contents) (name : List ℕ) : Type 0 where
  pub bytes : List ℕ
  pub durable : IsDurable bytes disk name
  pub front : take (gate + 6 + length payload) bytes
      ≡ take (gate + 1) start ++ be32 (length payload) ++ payload ++ 0 ∷ []
  pub sized : length bytes ≡ max (length start) (gate + 6 + length payload)

-- the entries of a list stand before a place, and the byte there is its gate byte; an empty file has none
pub record StandBefore (gate : ℕ) (list : List (List ℕ)) (bytes : List ℕ) : Type 0 where
  pub entries : take gate bytes ≡ written list
  pub place : length (written list) ≡ gate
  pub short : All (λ payload. length payload ≤ max_payload) list
  pub within : gate ≤ length bytes
  pub gated : 0 < gate → gate < length bytes

-- the list ends at this place: no entry begins there
pub record EndsAt (gate : ℕ) (list : List (List ℕ)) (bytes : List ℕ) : Type 0 where
  pub front : StandBefore gate list bytes
  pub last : begins_entry (drop gate bytes) ≡ false

-- the list ends at this place whatever the gate byte is
pub record EndsForAnyGate (gate : ℕ) (list : List (List ℕ)) (bytes : List ℕ) : Type 0 where
  pub front : StandBefore gate list bytes
  pub last : begins_entry (1 ∷ drop (gate + 1) bytes) ≡ false

-- a file of this length in which the list ends there whatever the gate byte is, all of it durable
pub record IsReadyToShut (gate : ℕ) (list : List (List ℕ)) (len : ℕ) (disk : Contents) (name : List ℕ) : Type 0 where
  pub bytes : List ℕ
  pub durable : IsDurable bytes disk name
  pub ends : EndsForAnyGate gate list bytes
  pub sized : length bytes ≡ len

-- a log file of this length, all of it durable
pub record IsShut (gate : ℕ) (list : List (List ℕ)) (len : ℕ) (disk : Contents) (name : List ℕ) : Type 0 where
  pub bytes : List ℕ
  pub durable : IsDurable bytes disk name
  pub log : IsLogFile gate list bytes
  pub sized : length bytes ≡ len

-- a call that writes within a range: no more is pending outside it than before, nor of creations and removals
pub record IsWriting (from to : ℕ) (old new : Contents) (file : List ℕ) : Type 0 where
  pub pending : (start : List ℕ) → IsPending start from to old file → IsPending start from to new file
  pub earlier : (image : Option (List ℕ)) → new.earlier file image → old.earlier file image
  pub others : KeepsOthers old new file

-- what a call that writes within a range may leave, of a file that had these durable bytes
abbrev pub MayTear : ℕ → ℕ → List ℕ → Contents → List ℕ → Option (List ℕ) → Type 0
MayTear from to start old file image = old.earlier file image ⊎ IsSomeAnd image (Torn from to start)

-- a write over a file's bytes that is synced
pub record Overwrites (file : List ℕ) (at : ℕ) (bytes : List ℕ) (old new : Contents) {T E : Type 0} (result : Result T E) : Type 0 where
  pub ok : (start : List ℕ) → IsDurable start old file → OnOk result (IsDurable (over start at bytes) new file)
  pub crash : (start : List ℕ) (image : Option (List ℕ)) → IsDurable start old file → MayLeave new file image
      → OnErr result (MayTear at (at + length bytes) start old file image)
  pub earlier : (image : Option (List ℕ)) → new.earlier file image → old.earlier file image
  pub others : KeepsOthers old new file

-- an entry is written behind the last gate, with its own shut gate, and synced
pub record Stages (file : List ℕ) (gate : ℕ) (payload : List ℕ) (old new : Contents) {T E : Type 0} (result : Result T E) : Type 0 where
  pub ok : (start : List ℕ) → IsDurable start old file → OnOk result (IsStaged start gate payload new file)
  pub crash : (start : List ℕ) (image : Option (List ℕ)) → IsDurable start old file → MayLeave new file image
      → OnErr result (MayTear (gate + 1) (gate + 6 + length payload) start old file image)
  pub earlier : (image : Option (List ℕ)) → new.earlier file image → old.earlier file image
  pub others : KeepsOthers old new file
