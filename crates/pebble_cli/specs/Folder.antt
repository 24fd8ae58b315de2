-- What the folder of a store stands for: a count and a map.
use Rattle.std.specs.Prelude.{◌≡◌, ℕ, ◌≤◌, List, Option}
use Rattle.std.specs.FinMap.{empty, insert}
use Rattle.pb_devices.specs.Contents.{Contents, Folder, MayLeave}
use Rattle.pb_gate_log.specs.EachLog.{EachLog}
use Rattle.pb_gate_log.specs.Payloads.{payloads_in}
use Rattle.pb_names.specs.Spelling.{file_name}
use Rattle.pb_names.specs.declared.file_kind.FileKind.TheVariants.{Log}
use Rattle.pb_keys.specs.Map.{Map}
use Rattle.pebble_cli.specs.Store.{Held}
use Rattle.pebble_cli.specs.Settings.{Set, IsSet, AreSets, payload_of, map_after, count_after}

-- the file of the log
abbrev pub log_name : List ℕ
log_name = file_name Log 3

-- these payloads are commands, which make this count and map
pub record Replays (list : List (List ℕ)) (n : ℕ) (m : Map) : Type 0 where
  pub sets : List Set
  pub are : AreSets sets list
  pub count : n ≡ count_after 0 sets
  pub map : m ≡ map_after empty sets

-- the folder stands for this count and map
abbrev pub StandsFor : Folder → ℕ → Map → Type 0
StandsFor folder n m = Replays (payloads_in (folder log_name)) n m

-- what an open store holds is what reads and each image of its log give
pub record KeepsLog (held : Held) (disk : Contents) : Type 0 where
  pub file : held.log.file ≡ log_name
  pub list : List (List ℕ)
  pub log : EachLog held.log list disk
  pub makes : Replays list held.count held.map

-- an image of the log stands for what is held
abbrev pub LeavesHeld : Option (List ℕ) → Held → Type 0
LeavesHeld image held = Replays (payloads_in image) held.count held.map

-- an image of the log has the payloads of one that there was
abbrev pub HasFrom : Contents → Option (List ℕ) → Type 0
HasFrom disk image = (other : Option (List ℕ)) × MayLeave disk log_name other × (payloads_in image ≡ payloads_in other)

-- a payload is a command whose count is at least so much, and it is set in the map
pub record IsRead (payload : List ℕ) (least n : ℕ) (old new : Map) : Type 0 where
  pub key : List ℕ
  pub value : List ℕ
  pub is : IsSet (record { count = n; key = key; value = value })
  pub spelled : payload ≡ payload_of (record { count = n; key = key; value = value })
  pub above : least ≤ n
  pub map : new ≡ insert old key value
