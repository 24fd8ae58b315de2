-- By which steps of the marker world one call of a store moves what the store sees.
use Rattle.std.specs.Prelude.{◌≡◌, ℕ, ◌≤◌, ◌⊎◌, ◌==◌, Bool, true, false, not, ◌&&◌, List, [], Option, Some, None, is_some, filter, map}
use Rattle.std.specs.FinMap.{get}
use Rattle.std.specs.List.{list_any, range_with_len}
use Rattle.pb_devices.specs.Contents.{Folder, IsImage}
use Rattle.pb_folder.specs.Said.{Said}
use Rattle.pb_folder.specs.Shown.{Words, Shows, StaysNamed, is_named, shared_of}
use Rattle.pb_marker_world.specs.declared.stages.Stage.TheVariants.{Held}
use Rattle.pb_marker_world.specs.Bucket.{name_of}
use Rattle.pb_marker_world.specs.Calls.{CrashIsLast, is_crash, puts_marker, puts_object}
use Rattle.pb_marker_world.specs.Machine.{Marker, identity}
use Rattle.pb_marker_world.specs.Steps.{Step, Reaches}
use Rattle.pb_names.specs.Identity.{Identity}
use Rattle.pb_names.specs.Spelling.{object_name}
use Rattle.pb_store.specs.Around.{Around, is_used, part_after, shown_part, stage_in}
use Rattle.pb_store.specs.Devices.{BucketCall, CallSteps, Devices, seen_by}
use Rattle.pb_store.specs.View.{StoreView, id_of, unintended_in}

-- a store that fell crashed at last, or not at all; any other didn't crash
abbrev pub CrashesWhere : Bool → List Step → Type 0
CrashesWhere true steps = CrashIsLast steps
CrashesWhere false steps = list_any is_crash steps ≡ false

-- a step puts what has the name: the store's own object under some number, or a marker of the store
pub data IsPutBy (id : ℕ) (steps : List Step) (name : List ℕ) : Type 0 where
  PutsObjectAs : (number : ℕ) → name ≡ object_name (identity id number) → list_any (puts_object number) steps ≡ true → IsPutBy id steps name
  PutsMarkerAs : (m : Marker) → m.store ≡ id → name ≡ name_of m → list_any (puts_marker m.number) steps ≡ true → IsPutBy id steps name

-- the object of the name is as before, is gone, or was put by a step
abbrev pub IsLeftOrPut : ℕ → List Step → Devices → Devices → List ℕ → Type 0
IsLeftOrPut id steps before after name =
    (get after.objects name ≡ get before.objects name) ⊎ (get after.objects name ≡ None) ⊎ IsPutBy id steps name

-- what an image at exit shows is reached from what the store showed at entry
pub record MovesTo (old new : StoreView) (a : Around) (before after : Devices) (call : Option BucketCall) (c : Folder) : Type 0 where
  pub words : Words
  pub shown : Shows c (id_of old) words
  pub steps : List Step
  pub reached : Reaches (id_of old) (seen_by (shown_part old a) before.objects a) steps (seen_by (part_after new a words) after.objects a)
  pub calls : CallSteps call before after steps
  pub crash : CrashesWhere new.is_down steps
  pub puts : (name : List ℕ) → IsLeftOrPut (id_of old) steps before after name

abbrev pub Moves : StoreView → StoreView → Around → Devices → Devices → Option BucketCall → Type 0
Moves old new a before after call = (c : Folder) → IsImage after.disk c → MovesTo old new a before after call c

-- the objects that images at exit name, and that were there, are as they were
abbrev pub StaysFor : ℕ → Devices → Devices → Type 0
StaysFor id before after =
    (c : Folder) (words : Words) → IsImage after.disk c → Shows c id words → StaysNamed words before.objects after.objects

-- ---- a store that falls

-- numbers below this one are used by what the folder says
abbrev pub next_in : Words → ℕ
next_in None = 0
next_in (Some said) = said.version.five.next

abbrev pub shared_in : Words → ℕ → Option Identity
shared_in None number = None
shared_in (Some said) number = shared_of said.entries number

-- a shared entry has the number, and the version has bytes under it
abbrev pub is_named_shared : Said → ℕ → Bool
is_named_shared said number = is_named said number && is_some (shared_of said.entries number)

-- the numbers of shared entries that the version names: a crash keeps these
abbrev pub named_in : Words → List ℕ
named_in None = []
named_in (Some said) = filter (is_named_shared said) (map (λ entry. entry.0) said.entries)

-- the numbers that the store's part hasn't used and that its folder has: a crash uses up none, so they are spent before it
abbrev pub unspent : StoreView → Words → List ℕ
unspent store words = filter (λ n. not (is_used store n)) (range_with_len 0 (next_in words))

-- the words have the store's shared entries, each Held where their version names it, and no lesser number to be drawn next
pub record MayFallTo (store : StoreView) (words : Words) : Type 0 where
  pub next : store.files.manifest.next ≤ next_in words
  pub entries : (number : ℕ) → shared_in words number ≡ shared_of store.files.provider.catalogue.entries number
  pub held : (said : Said) (number : ℕ) → words ≡ Some said → is_named_shared said number ≡ true
      → stage_in store.files.provider.stages number ≡ Held

-- ---- calls that make no step of the bucket's

-- no number is drawn for a shared object that wasn't
abbrev pub NoMoreUnintended : StoreView → StoreView → Type 0
NoMoreUnintended old new = (number : ℕ) → list_any (λ n. n == number) (unintended_in new) ≡ true
    → list_any (λ n. n == number) (unintended_in old) ≡ true

-- the shared entries and their stages are as before, and numbers were drawn or weren't: none for a shared object
pub record OnlyDraws (old new : StoreView) : Type 0 where
  pub id : id_of new ≡ id_of old
  pub entries : new.files.provider.catalogue.entries ≡ old.files.provider.catalogue.entries
  pub stages : new.files.provider.stages ≡ old.files.provider.stages
  pub next : old.files.manifest.next ≤ new.files.manifest.next
  pub unintended : NoMoreUnintended old new

-- the numbers that are used and weren't: they are spent
abbrev pub drawn : StoreView → StoreView → List ℕ
drawn old new = filter (λ n. not (is_used old n) && is_used new n) (range_with_len 0 new.files.manifest.next)

-- the folder shows words, and where the store fell, it may fall to them
pub record ShowsWords (old new : StoreView) (c : Folder) : Type 0 where
  pub words : Words
  pub shown : Shows c (id_of old) words
  pub falls : new.is_down ≡ true → MayFallTo old words

-- the objects are as before, and so are all shared entries
pub record IsLocal (old new : StoreView) (before after : Devices) : Type 0 where
  pub objects : after.objects ≡ before.objects
  pub draws : new.is_down ≡ false → OnlyDraws old new
  pub shows : (c : Folder) → IsImage after.disk c → ShowsWords old new c
