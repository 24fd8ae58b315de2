-- What the devices of one call hold and count, and which calls of the bucket it makes.
use Rattle.std.specs.Prelude.{◌≡◌, ℕ, ◌≤◌, ◌⊎◌, Bool, true, List, [], ◌∷◌, Option, Some, None}
use Rattle.pb_devices.specs.Contents.{Contents}
use Rattle.pb_devices.specs.Counts.{Rose, one_more}
use Rattle.pb_devices.specs.Objects.{Objects}
use Rattle.pb_marker_world.specs.Bucket.{shown_names}
use Rattle.pb_marker_world.specs.Calls.{bucket_steps}
use Rattle.pb_marker_world.specs.Machine.{Local, Part}
use Rattle.pb_marker_world.specs.Steps.{Step}
use Rattle.pb_script.specs.declared.line.Lane.{Lane}
use Rattle.pb_store.specs.Around.{Around}

-- before a call, or after it
pub record Devices : Type 1 where
  pub disk : Contents
  pub objects : Objects
  pub disk_faults : ℕ
  pub bucket_faults : ℕ
  pub bucket_calls : ℕ

abbrev pub devices_of : Contents → Objects → ℕ → ℕ → ℕ → Devices
devices_of disk objects disk_faults bucket_faults bucket_calls = record {
  disk = disk;
  objects = objects;
  disk_faults = disk_faults;
  bucket_faults = bucket_faults;
  bucket_calls = bucket_calls;
}

-- which of the two devices tells what it holds
pub record Tells : Type 0 where
  pub disk : Bool
  pub bucket : Bool

abbrev pub AllTell : Tells → Type 0
AllTell told = (told.disk ≡ true) × (told.bucket ≡ true)

-- what a store with this part sees
abbrev pub seen_by : Part → Objects → Around → Local
seen_by part objects a = record { part = part; names = shown_names objects; lendings = a.lendings }

-- ---- calls of the bucket

pub data BucketCall : Type 0 where
  -- it sizes, reads or lists, or is a call on an external object
  Reads : BucketCall
  -- a put, check, delete or count on a shared name
  Makes : (step : Step) → BucketCall

-- it is the step, or it failed and is none
abbrev pub IsStepOrFailed : Step → Devices → Devices → List Step → Type 0
IsStepOrFailed step before after steps =
    (bucket_steps steps ≡ step ∷ []) ⊎ (Rose before.bucket_faults after.bucket_faults × (bucket_steps steps ≡ []))

-- the bucket's steps among these
abbrev pub CallSteps : Option BucketCall → Devices → Devices → List Step → Type 0
CallSteps None before after steps = bucket_steps steps ≡ []
CallSteps (Some Reads) before after steps = bucket_steps steps ≡ []
CallSteps (Some (Makes step)) before after steps = IsStepOrFailed step before after steps

-- none, or one that only reads
abbrev pub IsReading : Option BucketCall → Type 0
IsReading None = Unit {0}
IsReading (Some Reads) = Unit {0}
IsReading (Some (Makes step)) = ⊥

-- any number of reads
pub record OnlyReads (told : Tells) (call : Option BucketCall) (before after : Devices) : Type 0 where
  pub reading : IsReading call
  pub same : told.bucket ≡ true → after.objects ≡ before.objects
  pub later : before.bucket_calls ≤ after.bucket_calls

-- a turn makes one call or none; what is no turn only reads
abbrev pub AreCalled : Tells → Option Lane → Option BucketCall → Devices → Devices → Type 0
AreCalled told (Some lane) None before after = after.bucket_calls ≡ before.bucket_calls
AreCalled told (Some lane) (Some call) before after = after.bucket_calls ≡ one_more before.bucket_calls
AreCalled told None call before after = OnlyReads told call before after
