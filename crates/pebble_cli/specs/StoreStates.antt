-- A store in memory: what a step does to it, and to the images of its folder.
use Rattle.std.specs.Prelude.{◌≡◌, ℕ, ◌+◌, ◌<◌, ◌≤◌, ◌^◌, ◌⊎◌, Bool, true, false, MatchBool, List, [], ◌∷◌, Option, Some, None, Err, replicate}
use Rattle.std.specs.FinMap.{empty, get, insert}
use Rattle.pb_devices.specs.BeforeOrAfter.{IsBeforeOrAfter}
use Rattle.pb_devices.specs.Contents.{Contents}
use Rattle.pb_devices.specs.Counts.{HasCauseAs}
use Rattle.pb_devices.specs.declared.trace.Mark.{Mark}
use Rattle.pb_gate_log.specs.declared.gate_log.AppendError.{AppendError}
use Rattle.pb_gate_log.specs.declared.gate_log.AppendError.TheVariants.{Failed, TooLarge}
use Rattle.pb_keys.specs.Map.{Map}
use Rattle.pb_reply.specs.declared.refusal.Refusal.{Refusal}
use Rattle.pb_reply.specs.declared.refusal.Refusal.TheVariants as refusal
use Rattle.pb_reply.specs.declared.reply.Reply.{Reply}
use Rattle.pb_reply.specs.declared.reply.Reply.TheVariants as reply
use Rattle.pb_machine.specs.Ran.{Ran}
use Rattle.pb_machine.specs.Trail.{refusal_in, count_in, goes_on, looked_up}
use Rattle.pebble_cli.specs.Folder.{log_name, Replays, KeepsLog, LeavesHeld}
use Rattle.pebble_cli.specs.Store.{Held, with_pair}
use Rattle.pebble_cli.specs.declared.step.Step.{Step}
use Rattle.pebble_cli.specs.declared.step.Step.TheVariants as step
use Rattle.pebble_cli.specs.declared.store.Store.{Store}
use Rattle.pebble_cli.specs.declared.store.Store.TheVariants.{Closed, Open, Down}
use Rattle.pebble_cli.specs.declared.store_error.StoreError.{StoreError}
use Rattle.pebble_cli.specs.declared.store_error.StoreError.TheVariants.{NumbersSpent, Damaged, DiskFault, NoMemory}

-- how an append that failed is told
abbrev pub append_error : AppendError → StoreError
append_error Failed = DiskFault
append_error TooLarge = NoMemory

-- how an error is answered. The one file that may be damaged is the log
abbrev pub error_refusal : StoreError → Refusal
error_refusal NumbersSpent = refusal.NumbersSpent
error_refusal Damaged = refusal.Damaged log_name
error_refusal DiskFault = refusal.DiskFault
error_refusal NoMemory = refusal.NoMemory

-- while it is open it holds what its log gives
abbrev pub Keeps : Store → Contents → Type 0
Keeps (Open held) disk = KeepsLog held disk
Keeps store disk = Unit {0}

abbrev pub is_open : Store → Bool
is_open (Open held) = true
is_open store = false

abbrev pub has_fallen : Store → Bool
has_fallen Down = true
has_fallen store = false

-- the map that it holds
abbrev pub map_in : Store → Map
map_in (Open held) = held.map
map_in store = empty

-- ---- what a step does to it, and how it is answered

-- an `open` of a store that isn't open
abbrev pub Opens : Reply → Store → Type 0
Opens (reply.Opened n) (Open held) = (held.count ≡ n) × (n < 2 ^ 62)
Opens (reply.Refused (refusal.Damaged file)) Closed = file ≡ log_name
Opens (reply.Refused refusal.DiskFault) Closed = Unit {0}
Opens (reply.Refused refusal.NoMemory) Closed = Unit {0}
Opens reply store = ⊥

-- a `set` of one that is open
abbrev pub Sets : Held → List ℕ → List ℕ → Reply → Store → Type 0
Sets held key value (reply.Accepted n) (Open new) =
    (n ≡ held.count + 1) × (n < 2 ^ 62) × (new.count ≡ n) × (new.map ≡ insert held.map key value)
Sets held key value (reply.Refused refusal.NumbersSpent) after = (2 ^ 62 ≤ held.count + 1) × (after ≡ Open held)
Sets held key value (reply.Refused refusal.DiskFault) after = (held.count + 1 < 2 ^ 62) × (after ≡ Down)
Sets held key value (reply.Refused refusal.NoMemory) after = after ≡ Open held
Sets held key value reply after = ⊥

-- a `get` of one that is open
abbrev pub Gets : Held → List ℕ → Reply → Type 0
Gets held key answer = (answer ≡ reply.Refused refusal.NoMemory) ⊎ (answer ≡ looked_up (get held.map key))

-- it is refused so, and stays as it is
abbrev pub Stays : Store → Store → Refusal → Reply → Type 0
Stays before after cause answer = (answer ≡ reply.Refused cause) × (after ≡ before)

abbrev pub Acts : Store → Step → Reply → Store → Type 0
Acts before step.Open answer after = MatchBool (is_open before) (Stays before after refusal.AlreadyOpen answer) (Opens answer after)
Acts (Open held) (step.Set key value) answer after = Sets held key value answer after
Acts (Open held) (step.Get key) answer after = Gets held key answer × (after ≡ Open held)
Acts before step answer after = Stays before after refusal.NotOpen answer

-- ---- what a line came to

-- the mark of a reply, where A is Down after it or not, and no other store is
abbrev pub mark_in : Reply → Bool → Mark
mark_in reply has_fallen =
    record { refusal = refusal_in reply; count = count_in reply; more = goes_on reply; down = has_fallen ∷ replicate 7 false }

-- what the work of a step met: the other refusals are given by the family's state
abbrev pub met_in : Reply → Option Refusal
met_in (reply.Refused (refusal.Damaged file)) = Some (refusal.Damaged file)
met_in (reply.Refused refusal.DiskFault) = Some refusal.DiskFault
met_in (reply.Refused refusal.NoMemory) = Some refusal.NoMemory
met_in reply = None

-- what a `get` read
abbrev pub read_in : Reply → Reply
read_in (reply.Value value) = reply.Value value
read_in other = reply.Absent

-- what a step came to, by its reply and the store after it
abbrev pub ran_of : Reply → Store → Ran
ran_of answer store =
    record {
      mark = mark_in answer (has_fallen store);
      refused = met_in answer;
      read = read_in answer;
      layer = None;
      lent = [];
      absent = None;
    }

-- ---- devices

-- a fault of a device is told
abbrev pub TellsFault : Reply → Type 0
TellsFault (reply.Refused refusal.DiskFault) = Unit {0}
TellsFault (reply.Refused refusal.BucketFault) = Unit {0}
TellsFault reply = ⊥

-- a fault is told only where the count of faults rose; else the count is as before
abbrev pub HasReplyCause : ℕ → ℕ → Reply → Type 0
HasReplyCause before now reply = HasCauseAs {T = Unit {0}} TellsFault before now (Err reply)

-- an opening finds what reads gave of the log
abbrev pub Finds : List (List ℕ) → Step → Reply → Map → Type 0
Finds list step.Open (reply.Opened n) m = Replays list n m
Finds list step.Open (reply.Refused (refusal.Damaged file)) m = (n : ℕ) (l : Map) → Replays list n l → ⊥
Finds list step reply m = Unit {0}

-- a `set` of an open store left the accepted commands in this image, or these and its own
abbrev pub IsSetBy : Store → Step → Option (List ℕ) → Type 0
IsSetBy (Open held) (step.Set key value) image =
    IsBeforeOrAfter (LeavesHeld image) held (with_pair held key value)
IsSetBy store step image = ⊥
