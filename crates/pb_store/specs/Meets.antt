-- What one call on an open store owes: its files, its lanes, its count, what its folder stands for, and its moves.
use Rattle.std.specs.Prelude.{◌≡◌, ℕ, ◌+◌, ◌<◌, ◌≤◌, ◌⊎◌, Bool, true, false, MatchBool, MatchOption, Option, Some, None, IfSome, IsSome, IsSomeAnd, is_some, if◌then◌else◌}
use Rattle.pb_devices.specs.BeforeOrAfter.{IsBeforeOrAfter}
use Rattle.pb_devices.specs.Contents.{Folder, IsImage, KeptBut}
use Rattle.pb_devices.specs.Counts.{Rose}
use Rattle.pb_folder.specs.StandsFor.{StandsFor}
use Rattle.pb_keys.specs.Map.{Map}
use Rattle.pb_marker_world.specs.Bucket.{NamesInForm}
use Rattle.pb_recover.specs.Files.{KeepsFiles}
use Rattle.pb_recover.specs.Reopened.{IsFolderName}
use Rattle.pb_recover.specs.Standing.{AllStand}
use Rattle.pb_reply.specs.Refusals.{refusal_number}
use Rattle.pb_reply.specs.declared.reply.Reply.{Reply}
use Rattle.pb_reply.specs.declared.reply.Reply.TheVariants as reply
use Rattle.pb_rows.specs.Changing.{Changing, after as map_after}
use Rattle.pb_script.specs.declared.line.Lane.{Lane}
use Rattle.pb_script.specs.declared.line.Lane.TheVariants.{Fg, Bg}
use Rattle.pb_version.specs.Above.{AddsAbove}
use Rattle.pb_store.specs.declared.turn.Turn.{Turn}
use Rattle.pb_store.specs.declared.turn.Turn.TheVariants.{Working, Done}
use Rattle.pb_store.specs.Around.{Around, IsAround, around_after}
use Rattle.pb_store.specs.Devices.{AllTell, AreCalled, BucketCall, Devices, Tells}
use Rattle.pb_store.specs.Moves.{Moves, StaysFor}
use Rattle.pb_store.specs.View.{IsIdle, JobView, StoreView, id_of, job_in}

-- ---- replies

-- the count of the command that the reply accepts
abbrev pub count_in : Reply → Option ℕ
count_in (reply.Accepted count) = Some count
count_in other = None

-- the number of the refusal
abbrev pub refusal_in : Reply → Option ℕ
refusal_in (reply.Refused refusal) = Some (refusal_number refusal)
refusal_in other = None

abbrev pub accepted_by : Turn → Option ℕ
accepted_by Working = None
accepted_by (Done answer) = count_in answer

abbrev pub refused_by : Turn → Option ℕ
refused_by Working = None
refused_by (Done answer) = refusal_in answer

-- one more where a command was accepted, with that count; else the same
abbrev pub CountsOn : Turn → ℕ → ℕ → Type 0
CountsOn turn old new = MatchOption (accepted_by turn) (new ≡ old) (λ count. (new ≡ old + 1) × (count ≡ new))

-- Down after a damage, a missing object and a device's fault; after want of memory it may be; after nothing else
pub record IsFall (turn : Turn) (is_down : Bool) : Type 0 where
  pub must : IfSome (refused_by turn) (λ refusal. 20 ≤ refusal → refusal ≤ 23 → is_down ≡ true)
  pub only : is_down ≡ true → IsSomeAnd (refused_by turn) (λ refusal. (20 ≤ refusal) × (refusal ≤ 24))

-- a device's fault is told only where that device's count rose, and want of memory only where none did
pub record HasCauses (before after : Devices) (turn : Turn) : Type 0 where
  pub disk_later : before.disk_faults ≤ after.disk_faults
  pub bucket_later : before.bucket_faults ≤ after.bucket_faults
  pub disk_failed : IfSome (refused_by turn) (λ refusal. refusal ≡ 22 → Rose before.disk_faults after.disk_faults)
  pub bucket_failed : IfSome (refused_by turn) (λ refusal. refusal ≡ 23 → Rose before.bucket_faults after.bucket_faults)
  pub calm : IfSome (refused_by turn) (λ refusal. refusal ≡ 24
      → (after.disk_faults ≡ before.disk_faults) × (after.bucket_faults ≡ before.bucket_faults))

-- ---- lanes

abbrev pub other_lane : Lane → Lane
other_lane Fg = Bg
other_lane Bg = Fg

-- it runs beside no compaction of its own: each call but a turn of lane bg
abbrev pub IsForeground : Option Lane → Type 0
IsForeground None = Unit {0}
IsForeground (Some Fg) = Unit {0}
IsForeground (Some Bg) = ⊥

-- one call more, and the bound on those to come fell, or there was none before the first turn
pub record HasGoneOn (old new : JobView) : Type 0 where
  pub calls : new.made_calls ≡ old.made_calls + 1
  pub fell : (new.left < old.left) ⊎ (old.made_calls ≡ 0)

abbrev pub JobGoesOn : Option JobView → Option JobView → Type 0
JobGoesOn old new = IsSomeAnd old (λ before. IsSomeAnd new (HasGoneOn before))

-- the job of the turn's lane stands, and has gone on
abbrev pub GoesOn : Option Lane → StoreView → StoreView → Type 0
GoesOn None old new = ⊥
GoesOn (Some lane) old new = JobGoesOn (job_in lane old) (job_in lane new)

-- a turn that is done leaves its lane empty
abbrev pub HasEnded : Turn → Option JobView → Type 0
HasEnded Working job = Unit {0}
HasEnded (Done answer) job = job ≡ None

-- the jobs of other lanes stand as they stood, and that of the turn's own has ended once it is done
abbrev pub KeepsLanes : Option Lane → Turn → StoreView → StoreView → Type 0
KeepsLanes None turn old new = (new.fg ≡ old.fg) × (new.bg ≡ old.bg)
KeepsLanes (Some lane) turn old new = (job_in (other_lane lane) new ≡ job_in (other_lane lane) old) × HasEnded turn (job_in lane new)

-- a Down store has no job
abbrev pub KeepsOtherLane : Option Lane → Turn → StoreView → StoreView → Type 0
KeepsOtherLane lane turn old new = MatchBool new.is_down (IsIdle new) (KeepsLanes lane turn old new)

-- ---- what the folder stands for

-- after the command, where the turn accepts it
abbrev pub turned : Option Changing → Turn → Map → Map
turned None turn m = m
turned (Some command) turn m = if is_some (accepted_by turn) then map_after m command else m

-- a count and a map, with one command more
abbrev pub with_command : Option Changing → ℕ × Map → ℕ × Map
with_command None stood = stood
with_command (Some command) stood = (stood.0 + 1, map_after stood.1 command)

abbrev pub Stands : Folder → Devices → ℕ → ℕ × Map → Type 0
Stands c devices id stood = StandsFor c devices.objects id stood.0 stood.1

-- each image stands for what it stood for, or for that with the command
abbrev pub StandOldOrNew : Option Changing → Devices → ℕ → ℕ × Map → Type 0
StandOldOrNew command after id stood =
    (c : Folder) → IsImage after.disk c → IsBeforeOrAfter (Stands c after id) stood (with_command command stood)

abbrev pub StandsAfter : Option Changing → StoreView → StoreView → Devices → Turn → Map → Type 0
StandsAfter command old new after turn m =
    MatchBool new.is_down (StandOldOrNew command after (id_of old) (old.files.accepted, m))
    (AllStand after.disk after.objects (id_of old) new.files.accepted (turned command turn m))

-- ---- a call

-- `lane` is None for a call that is no turn. What a call that takes a disk owes, wherever it ends
pub record TurnMeets (told : Tells) (lane : Option Lane) (command : Option Changing) (old new : StoreView) (before after : Devices) (turn : Turn) : Type 0 where
  pub id : id_of new ≡ id_of old
  -- what the files are, while the store isn't Down
  pub keeps : told.disk ≡ true → new.is_down ≡ false → KeepsFiles new.files after.disk
  pub others : told.disk ≡ true → KeptBut IsFolderName before.disk after.disk
  pub around : (a : Around) → IsAround old a → new.is_down ≡ false → IsAround new (around_after new a)
  pub names : told.bucket ≡ true → NamesInForm before.objects → NamesInForm after.objects
  pub call : Option BucketCall
  pub calls : AreCalled told lane call before after
  pub working : turn ≡ Working → IsSome call × GoesOn lane old new
  -- by which steps the store's part goes on
  pub moves : AllTell told → (a : Around) → IsAround old a → NamesInForm before.objects → Moves old new a before after call
  -- what the files stand for
  pub stands : AllTell told → (m : Map) → AllStand before.disk before.objects (id_of old) old.files.accepted m
      → StaysFor (id_of old) before after → StandsAfter command old new after turn m
  pub installs : IsForeground lane → AddsAbove old.files.version new.files.version
  pub lanes : KeepsOtherLane lane turn old new
  pub reply : CountsOn turn old.files.accepted new.files.accepted
  pub falls : IsFall turn new.is_down
  pub cause : HasCauses before after turn
