-- An opening moves nothing of a store that was there, and spends the first numbers of a new one.
use Rattle.std.proofs.Common.{◌≡◌, ℕ, Bool, true, false, List, [], ◌++◌, Some, None, inl, inr, refl, sym, ap, ◌∙◌, subst}
use Rattle.std.specs.Prelude.{◌==◌, ◌||◌, ◌&&◌, not, nat_lt}
use Rattle.std.specs.List.{filter, list_any, range_with_len}
use Rattle.std.proofs.lemmas.Bool.{false≢true}
use Rattle.std.specs.Option.{option_map}
use Rattle.pb_devices.specs.Contents.{Folder, IsImage, MayLeave}
use Rattle.pb_devices.specs.Objects.{Objects}
use Rattle.pb_folder.specs.Said.{Said, Says}
use Rattle.pb_folder.specs.Shown.{Shows, Words, closed_entry, closed_part, shared_of}
use Rattle.pb_folder.proofs.ShownLaws.{one_shown}
use Rattle.pb_marker_world.specs.Calls.{bucket_steps, is_crash}
use Rattle.pb_marker_world.specs.Machine.{Local, Part}
use Rattle.pb_marker_world.specs.Spending.{spend_each}
use Rattle.pb_marker_world.specs.Steps.{Reaches, Step}
use Rattle.pb_payloads.specs.Catalogue.{Entries}
use Rattle.pb_recover.specs.Files.{KeepsFiles, said_of}
use Rattle.pb_recover.specs.First.{first_said}
use Rattle.pb_recover.specs.Reopened.{Reopens}
use Rattle.pb_recover.specs.Standing.{ShownBefore, StillShows}
use Rattle.pb_recover.proofs.Chain.{shown}
use Rattle.pb_recover.proofs.Files.{image_says}
use Rattle.pb_store.specs.Around.{Around, entry_of, is_used, shown_entry, shown_part}
use Rattle.pb_store.specs.Devices.{Devices, seen_by}
use Rattle.pb_store.specs.Opening.{IsJustOpened, OpeningMoves, OpensTo, Starts, around_opened}
use Rattle.pb_store.specs.View.{StoreView, unintended_in, unintended_of}
use Rattle.pb_store.proofs.Spends.{same_part, spends_are_no_calls, spends_are_no_crash, spent_to}

-- ---- parts

spent_first : (used low : Bool) → (used ≡ true → low ≡ true) → ((used && low) || false) ≡ used
spent_first true low h = ap (λ b. b || false) (h refl)
spent_first false low h = refl

-- from nothing used and no entry
from_nothing : (id end : ℕ) (part : Part) (objects : Objects) (a : Around) → part.opening ≡ a.opening
    → ((k : ℕ) → part.used k ≡ true → nat_lt k end ≡ true) → ((k : ℕ) → part.entries k ≡ None)
    → Reaches id (seen_by (closed_part a.opening None) objects a) (spend_each (filter part.used (range_with_len 0 end))) (seen_by part objects a)
from_nothing id end part objects a opening below none =
    let first : Local = seen_by (closed_part a.opening None) objects a in
    let spent : Part = record { opening = a.opening; used = part.used; entries = λ k. None } in
    subst (λ (p : Part). Reaches id first (spend_each (filter part.used (range_with_len 0 end))) (seen_by p objects a))
    (same_part spent part (sym opening) (λ k. refl) (λ k. sym (none k)))
    (spent_to id end part.used part.used first (λ k used. absurd (false≢true used)) (λ k. spent_first (part.used k) (nat_lt k end) (below k)))

and_true : (b : Bool) → (b && true) ≡ b
and_true true = refl
and_true false = refl

module _ (id : ℕ) (store : StoreView) (is : IsJustOpened id store) where
  none_unintended : unintended_in store ≡ []
  none_unintended = λ i. unintended_of (is.lanes.front i) ++ unintended_of (is.lanes.behind i)

  used_is : (k : ℕ) → is_used store k ≡ nat_lt k store.files.manifest.next
  used_is k =
      ap (λ (numbers : List ℕ). nat_lt k store.files.manifest.next && not (list_any (λ n. n == k) numbers)) none_unintended
      ∙ and_true (nat_lt k store.files.manifest.next)

  no_entry : (a : Around) (k : ℕ) → shown_entry store a k ≡ None
  no_entry a k = ap (λ (entries : Entries). option_map (entry_of store a k) (shared_of entries k)) is.ready.bare

  -- where all that the folder has reserved is used, the parts are one
  same_as_closed : (said : Said) (a : Around) → said.entries ≡ [] → store.files.manifest.next ≡ said.version.five.next
      → shown_part store a ≡ closed_part a.opening (Some said)
  same_as_closed said a bare all =
      same_part (shown_part store a) (closed_part a.opening (Some said)) refl
      (λ k. used_is k ∙ ap (λ n. nat_lt k n) all)
      (λ k. no_entry a k ∙ sym (ap (λ (entries : Entries). option_map (closed_entry said k) (shared_of entries k)) bare))

-- ---- an open store

module _ (id : ℕ) (store : StoreView) (before after : Devices) (is : IsJustOpened id store) (kept : KeepsFiles store.files after.disk)
    (same : after.objects ≡ before.objects) (c : Folder) (image : IsImage after.disk c) where
  says_now : Says c id (said_of store.files kept.entries)
  says_now = subst (λ (n : ℕ). Says c n (said_of store.files kept.entries)) is.own (image_says store.files after.disk kept is.ready c image)

  opened_by : (old : Words) (a : Around) (steps : List Step) → bucket_steps steps ≡ [] → list_any is_crash steps ≡ false
      → Reaches id (seen_by (closed_part a.opening old) before.objects a) steps
      (seen_by (shown_part store (around_opened a.opening a.lendings)) before.objects a)
      → OpensTo id (Some store) before after old a c
  opened_by old a steps quiet calm reached = record {
    words = Some (said_of store.files kept.entries);
    shown = says_now;
    steps = steps;
    reached = subst
        (λ (objects : Objects). Reaches id (seen_by (closed_part a.opening old) before.objects a) steps
        (seen_by (shown_part store (around_opened a.opening a.lendings)) objects a))
        (sym same) reached;
    calls = quiet;
    crash = calm;
  }

  from_new : (old : Words) (a : Around) → old ≡ None → OpensTo id (Some store) before after old a c
  from_new old a new =
      let part : Part = shown_part store (around_opened a.opening a.lendings) in
      let numbers : List ℕ = filter part.used (range_with_len 0 store.files.manifest.next) in
      opened_by old a (spend_each numbers) (spends_are_no_calls numbers) (spends_are_no_crash numbers)
      (subst (λ (words : Words). Reaches id (seen_by (closed_part a.opening words) before.objects a) (spend_each numbers) (seen_by part before.objects a))
      (sym new)
      (from_nothing id store.files.manifest.next part before.objects a refl (λ k used. sym (used_is id store is k) ∙ used)
      (no_entry id store is (around_opened a.opening a.lendings))))

  -- where the folder was there, and all that it had reserved is used
  from_old : (folder : Folder) (old : Words) (a : Around) → store.files.manifest.next ≡ store.files.version.five.next → Shows folder id old
      → StillShows id folder c old → OpensTo id (Some store) before after old a c
  from_old folder old a all was (inl still) =
      let words : old ≡ Some (said_of store.files kept.entries) = one_shown c id id old (Some (said_of store.files kept.entries)) still says_now in
      let part : shown_part store (around_opened a.opening a.lendings) ≡ closed_part a.opening (Some (said_of store.files kept.entries)) =
      same_as_closed id store is (said_of store.files kept.entries) (around_opened a.opening a.lendings) is.ready.bare all in
      opened_by old a [] refl refl
      (ap (λ (p : Part). seen_by p before.objects a) (part ∙ ap (λ (w : Words). closed_part a.opening w) (sym words)))
  from_old folder old a all was (inr both) = from_new old a (one_shown folder id id old None was both.0)

pub moves_opened : (id : ℕ) (store : StoreView) (before after : Devices) → ((name : List ℕ) → MayLeave before.disk name (before.disk.seen name))
    → IsJustOpened id store → KeepsFiles store.files after.disk → Starts before.disk store.files → Reopens id before.disk after.disk
    → after.objects ≡ before.objects → OpeningMoves id (Some store) before after
moves_opened id store before after seen is kept (inl new) reopens same c image = record {
  folder = before.disk.seen;
  image = seen;
  moves = λ old was opening lendings.
      from_new id store before after is kept same c image old (around_opened opening lendings) (one_shown before.disk.seen id id old None was new);
}
moves_opened id store before after seen is kept (inr all) reopens same c image =
    let start : ShownBefore id (IsImage before.disk) c = shown before.disk after.disk id reopens c image in
    record {
      folder = start.folder;
      image = start.image;
      moves = λ old was opening lendings.
          from_old id store before after is kept same c image start.folder old (around_opened opening lendings) all was (start.same old was);
    }

-- ---- a refused one

refused_to : (id : ℕ) (before after : Devices) → after.objects ≡ before.objects → (folder c : Folder) (old : Words) (a : Around)
    → Shows folder id old → StillShows id folder c old → OpensTo id None before after old a c
refused_to id before after same folder c old a was (inl still) = record {
  words = old;
  shown = still;
  steps = [];
  reached = ap (λ (objects : Objects). seen_by (closed_part a.opening old) objects a) same;
  calls = refl;
  crash = refl;
}
refused_to id before after same folder c old a was (inr both) =
    let part : Part = closed_part a.opening (Some first_said) in
    let numbers : List ℕ = filter part.used (range_with_len 0 64) in
    record {
      words = Some first_said;
      shown = both.1;
      steps = spend_each numbers;
      reached = subst (λ (l : Local). Reaches id (seen_by (closed_part a.opening old) before.objects a) (spend_each numbers) l)
          (ap (λ (objects : Objects). seen_by part objects a) (sym same))
          (subst (λ (words : Words). Reaches id (seen_by (closed_part a.opening words) before.objects a) (spend_each numbers) (seen_by part before.objects a))
          (sym (one_shown folder id id old None was both.0))
          (from_nothing id 64 part before.objects a refl (λ k used. used) (λ k. refl)));
      calls = spends_are_no_calls numbers;
      crash = spends_are_no_crash numbers;
    }

pub moves_refused : (id : ℕ) (before after : Devices) → Reopens id before.disk after.disk → after.objects ≡ before.objects
    → OpeningMoves id None before after
moves_refused id before after reopens same c image =
    let start : ShownBefore id (IsImage before.disk) c = shown before.disk after.disk id reopens c image in
    record {
      folder = start.folder;
      image = start.image;
      moves = λ old was opening lendings.
          refused_to id before after same start.folder c old (around_opened opening lendings) was (start.same old was);
    }
