-- What an opening owes, and by which steps it moves a closed store's part.
use Rattle.std.specs.Prelude.{◌≡◌, ℕ, ◌⊎◌, true, false, List, [], Option, Some, None, Result, IfOk, IfErr, MatchResult}
use Rattle.std.specs.Result.{result_ok}
use Rattle.std.specs.List.{list_any}
use Rattle.pb_devices.specs.Contents.{Contents, Folder, IsImage, KeptBut}
use Rattle.pb_devices.specs.Counts.{HasCauseAs}
use Rattle.pb_folder.specs.Shown.{Words, Shows, closed_part}
use Rattle.pb_folder.specs.StandsFor.{StandsFor}
use Rattle.pb_gate_log.specs.NewFolder.{IsNew}
use Rattle.pb_keys.specs.Map.{Map}
use Rattle.pb_marker_world.specs.Calls.{bucket_steps, is_crash}
use Rattle.pb_marker_world.specs.Machine.{Lending, Part}
use Rattle.pb_marker_world.specs.Steps.{Step, Reaches}
use Rattle.pb_provider.specs.Provider.{stages_of}
use Rattle.pb_recover.specs.Files.{KeepsFiles, IsReady, StoreFiles}
use Rattle.pb_recover.specs.Reopened.{IsFolderName, Reopens}
use Rattle.pb_recover.specs.Standing.{AllStand}
use Rattle.pb_reply.specs.Refusals.{refusal_number}
use Rattle.pb_reply.specs.declared.refusal.Refusal.{Refusal}
use Rattle.pb_store.specs.Around.{Around, shown_part}
use Rattle.pb_store.specs.Devices.{AllTell, AreCalled, Devices, Tells, seen_by}
use Rattle.pb_store.specs.View.{IsIdle, StoreView, id_of}

-- ---- moves

-- a started receive keeps no handle yet
abbrev pub around_opened : ℕ → List Lending → Around
around_opened opening lendings = record { opening = opening; lendings = lendings; lent = [] }

-- the open store's part, or, where it was refused, that of a closed one with these words
abbrev pub opened_part : Option StoreView → ℕ → List Lending → Words → Part
opened_part None opening lendings words = closed_part opening words
opened_part (Some store) opening lendings words = shown_part store (around_opened opening lendings)

-- from words at entry to an image at exit. An opening raises the opening number by one, and a closed store counts one more than
-- it was opened: so the number is the same on both sides
pub record OpensTo (id : ℕ) (store : Option StoreView) (before after : Devices) (old : Words) (a : Around) (c : Folder) : Type 0 where
  pub words : Words
  pub shown : Shows c id words
  pub steps : List Step
  pub reached : Reaches id (seen_by (closed_part a.opening old) before.objects a) steps
      (seen_by (opened_part store a.opening a.lendings words) after.objects a)
  pub calls : bucket_steps steps ≡ []
  pub crash : list_any is_crash steps ≡ false

-- there is an image at entry from whatever words of which the image at exit is reached
pub record OpensFrom (id : ℕ) (store : Option StoreView) (before after : Devices) (c : Folder) : Type 0 where
  pub folder : Folder
  pub image : IsImage before.disk folder
  pub moves : (old : Words) → Shows folder id old → (opening : ℕ) (lendings : List Lending)
      → OpensTo id store before after old (around_opened opening lendings) c

abbrev pub OpeningMoves : ℕ → Option StoreView → Devices → Devices → Type 0
OpeningMoves id store before after = (c : Folder) → IsImage after.disk c → OpensFrom id store before after c

-- ---- an open store

-- reads were those of a new folder, or all numbers that the folder had reserved are used
abbrev pub Starts : Contents → StoreFiles → Type 0
Starts before files = IsNew before.seen ⊎ (files.manifest.next ≡ files.version.five.next)

-- the store just opened: in memory there is nothing yet but its files
pub record IsJustOpened (id : ℕ) (store : StoreView) : Type 0 where
  pub ready : IsReady store.files
  pub own : id_of store ≡ id
  pub stages : store.files.provider.stages ≡ stages_of store.files.version store.files.provider.catalogue.entries
  pub begun : store.files.provider.begun ≡ []
  pub lanes : IsIdle store
  pub up : store.is_down ≡ false

-- the one count and the one map that what reads gave stood for, and the images now stand for the same
pub record IsFound (id n : ℕ) (m : Map) (after : Devices) (store : StoreView) : Type 0 where
  pub count : store.files.accepted ≡ n
  pub stands : AllStand after.disk after.objects id n m

-- only the disk failed, or there was no memory: the folder wasn't judged
abbrev pub IsUnjudged : Refusal → Type 0
IsUnjudged refusal = (refusal_number refusal ≡ 22) ⊎ (refusal_number refusal ≡ 24)

-- another store's folder, or a damaged one, or one that wasn't judged
abbrev pub IsOpeningRefusal : Refusal → Type 0
IsOpeningRefusal refusal = (refusal_number refusal ≡ 19) ⊎ (refusal_number refusal ≡ 20) ⊎ IsUnjudged refusal

-- the disk failed
abbrev pub IsDiskRefusal : Refusal → Type 0
IsDiskRefusal refusal = refusal_number refusal ≡ 22

-- the bucket failed
abbrev pub IsBucketRefusal : Refusal → Type 0
IsBucketRefusal refusal = refusal_number refusal ≡ 23

-- what an opening owes, wherever it ends
pub record OpenMeets (told : Tells) (id : ℕ) (before after : Devices) (result : Result StoreView Refusal) : Type 0 where
  pub opened : IfOk result (IsJustOpened id)
  pub keeps : told.disk ≡ true → IfOk result (λ store. KeepsFiles store.files after.disk)
  pub starts : told.disk ≡ true → IfOk result (λ store. Starts before.disk store.files)
  pub others : told.disk ≡ true → KeptBut IsFolderName before.disk after.disk
  pub reopens : told.disk ≡ true → Reopens id before.disk after.disk
  -- what reads stood for is what was opened, and a folder that stands for something is no other store's and not damaged
  pub stands : AllTell told → (n : ℕ) (m : Map) → StandsFor before.disk.seen before.objects id n m
      → MatchResult result (IsFound id n m after) IsUnjudged
  pub moves : AllTell told → OpeningMoves id (result_ok result) before after
  pub refusals : IfErr result IsOpeningRefusal
  pub disk_cause : HasCauseAs IsDiskRefusal before.disk_faults after.disk_faults result
  pub bucket_cause : HasCauseAs IsBucketRefusal before.bucket_faults after.bucket_faults result
  -- the bucket is read, if at all
  pub calls : AreCalled told None None before after
