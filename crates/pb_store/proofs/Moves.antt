-- Calls that make no step of the bucket's: numbers are spent, and a store that falls crashes.
use Rattle.std.proofs.Common.{◌≡◌, ℕ, ◌+◌, ◌≤◌, ◌<◌, Bool, true, false, List, [], ◌∷◌, ◌++◌, Option, Some, None, inl, inr, refl, sym, ap, ◌∙◌, subst, cond, arith}
use Rattle.std.specs.Prelude.{◌==◌, ◌||◌, ◌&&◌, not, is_some, nat_lt}
use Rattle.std.specs.FinMap.{get}
use Rattle.std.specs.List.{list_any}
use Rattle.std.specs.Option.{option_map}
use Rattle.std.proofs.lemmas.Bool.{and_from, and_parts, cases_Bool, false≢true, lt-ltb, not_from_true}
use Rattle.std.proofs.lemmas.Option.{same_Some}
use Rattle.pb_devices.specs.Contents.{Contents, Folder, IsImage}
use Rattle.pb_devices.specs.Objects.{Objects}
use Rattle.pb_folder.specs.Said.{Said, Says}
use Rattle.pb_folder.specs.Shown.{Words, closed_part, is_named, shared_of}
use Rattle.pb_marker_world.specs.declared.stages.Stage.{Stage}
use Rattle.pb_marker_world.specs.Calls.{bucket_steps}
use Rattle.pb_marker_world.specs.Machine.{Entry, Local, Part, identity, same_identity}
use Rattle.pb_marker_world.specs.Spending.{spend_each}
use Rattle.pb_marker_world.specs.Steps.{Reaches, Step}
use Rattle.pb_marker_world.specs.Steps.Step.{Crashes}
use Rattle.pb_names.specs.Identity.{Identity}
use Rattle.pb_payloads.specs.Catalogue.{Entries}
use Rattle.pb_recover.specs.Files.{IsReady, KeepsFiles, StoreFiles, said_of}
use Rattle.pb_recover.proofs.Files.{image_says}
use Rattle.pb_store.specs.Around.{Around, awaits_check, is_used, lender_in, part_after, shown_entry, shown_part, stage_in}
use Rattle.pb_store.specs.Devices.{BucketCall, CallSteps, Devices, IsReading, seen_by}
use Rattle.pb_store.specs.Devices.BucketCall.{Makes, Reads}
use Rattle.pb_store.specs.Moves.{CrashesWhere, IsLeftOrPut, IsLocal, MayFallTo, Moves, MovesTo, NoMoreUnintended, OnlyDraws, ShowsWords, drawn, is_named_shared, named_in, unspent}
use Rattle.pb_store.specs.View.{StoreView, id_of, unintended_in}
use Rattle.pb_store.proofs.Falls.{falls, used_below}
use Rattle.pb_store.proofs.Spends.{crash_is_last, same_part, spends_are_no_calls, spends_are_no_crash, spends_are_quiet, spent_to}

-- ---- numbers that are drawn

spent_or_kept : (used after low : Bool) → (used ≡ true → after ≡ true) → (after ≡ true → low ≡ true) → (((not used && after) && low) || used) ≡ after
spent_or_kept true true low h k = refl
spent_or_kept true false low h k = sym (h refl)
spent_or_kept false true true h k = refl
spent_or_kept false true false h k = k refl
spent_or_kept false false low h k = refl

never_both : (used after : Bool) → used ≡ true → (not used && after) ≡ false
never_both true after h = refl
never_both false after h = absurd (false≢true h)

still_not : (old new : Bool) → (new ≡ true → old ≡ true) → not old ≡ true → not new ≡ true
still_not old true h k = absurd (false≢true (sym (not_from_true old (h refl)) ∙ k))
still_not old false h k = refl

stays_used : (old new : StoreView) → OnlyDraws old new → (k : ℕ) → is_used old k ≡ true → is_used new k ≡ true
stays_used old new h k used =
    let below : k < old.files.manifest.next = used_below old k used in
    let parts = and_parts (nat_lt k old.files.manifest.next) (not (list_any (λ n. n == k) (unintended_in old))) used in
    and_from (nat_lt k new.files.manifest.next) (not (list_any (λ n. n == k) (unintended_in new)))
    (lt-ltb k new.files.manifest.next (omega (arith, below, h.next)))
    (still_not (list_any (λ n. n == k) (unintended_in old)) (list_any (λ n. n == k) (unintended_in new)) (h.unintended k) parts.1)

-- an entry by the parts of a store that it is made of
abbrev entry_by : Around → ℕ → ℕ → List (ℕ × Stage) → Option Identity → Option Entry
entry_by a k id stages shared =
    option_map
    (λ object. record {
      object = object;
      lender = cond (awaits_check (stage_in stages k) && not (same_identity object (identity id k))) (lender_in a.lent object) None;
      stage = stage_in stages k;
    })
    shared

same_entry : (old new : StoreView) (a : Around) → OnlyDraws old new → (k : ℕ) → shown_entry old a k ≡ shown_entry new a k
same_entry old new a h k = λ i. entry_by a k (sym h.id i) (sym h.stages i) (shared_of (sym h.entries i) k)

pub next_rises : (old new : StoreView) (a : Around) (objects : Objects) → OnlyDraws old new
    → Reaches (id_of old) (seen_by (shown_part old a) objects a) (spend_each (drawn old new)) (seen_by (shown_part new a) objects a)
next_rises old new a objects h =
    let first : Local = seen_by (shown_part old a) objects a in
    let part : Part = record { opening = a.opening; used = is_used new; entries = shown_entry old a } in
    let left : part ≡ shown_part new a = same_part part (shown_part new a) refl (λ k. refl) (same_entry old new a h) in
    subst (λ (x : Part). Reaches (id_of old) first (spend_each (drawn old new)) (seen_by x objects a)) left
    (spent_to (id_of old) new.files.manifest.next (λ k. not (is_used old k) && is_used new k) (is_used new) first
    (λ k used. never_both (is_used old k) (is_used new k) used)
    (λ k. spent_or_kept (is_used old k) (is_used new k) (nat_lt k new.files.manifest.next) (stays_used old new h k)
    (λ used. lt-ltb k new.files.manifest.next (used_below new k used))))

-- ---- a call

quiet_call : (call : Option BucketCall) (before after : Devices) (steps : List Step) → IsReading call → bucket_steps steps ≡ []
    → CallSteps call before after steps
quiet_call None before after steps reading quiet = quiet
quiet_call (Some Reads) before after steps reading quiet = quiet
quiet_call (Some (Makes step)) before after steps reading quiet = absurd reading

module _ (old new : StoreView) (a : Around) (before after : Devices) (call : Option BucketCall) (c : Folder)
    (reading : IsReading call) (here : IsLocal old new before after) where
  left_alone : (steps : List Step) (name : List ℕ) → IsLeftOrPut (id_of old) steps before after name
  left_alone steps name = inl (ap (λ (objects : Objects). get objects name) here.objects)

  -- the store's part is this after the call, beside the same objects
  leads_on : (steps : List Step) (words : Words) (part : Part) → part ≡ part_after new a words
      → Reaches (id_of old) (seen_by (shown_part old a) before.objects a) steps (seen_by part before.objects a)
      → Reaches (id_of old) (seen_by (shown_part old a) before.objects a) steps (seen_by (part_after new a words) after.objects a)
  leads_on steps words part same reached =
      subst (λ (l : Local). Reaches (id_of old) (seen_by (shown_part old a) before.objects a) steps l)
      (λ i. seen_by (same i) (sym here.objects i) a) reached

  fallen : (shows : ShowsWords old new c) → new.is_down ≡ true → MovesTo old new a before after call c
  fallen shows down =
      let steps : List Step = spend_each (unspent old shows.words) ++ Crashes (named_in shows.words) ∷ [] in
      let closed : Part = closed_part (a.opening + 1) shows.words in
      record {
        words = shows.words;
        shown = shows.shown;
        steps = steps;
        reached = leads_on steps shows.words closed (ap (λ (b : Bool). cond b closed (shown_part new a)) (sym down))
            (falls old a shows.words before.objects (shows.falls down));
        calls = quiet_call call before after steps reading
            (spends_are_quiet (unspent old shows.words) (Crashes (named_in shows.words) ∷ []) refl);
        crash = subst (λ (b : Bool). CrashesWhere b steps) (sym down) (crash_is_last (unspent old shows.words) (named_in shows.words));
        puts = left_alone steps;
      }

  standing : (shows : ShowsWords old new c) → new.is_down ≡ false → MovesTo old new a before after call c
  standing shows up =
      let steps : List Step = spend_each (drawn old new) in
      record {
        words = shows.words;
        shown = shows.shown;
        steps = steps;
        reached = leads_on steps shows.words (shown_part new a)
            (ap (λ (b : Bool). cond b (closed_part (a.opening + 1) shows.words) (shown_part new a)) (sym up))
            (next_rises old new a before.objects (here.draws up));
        calls = quiet_call call before after steps reading (spends_are_no_calls (drawn old new));
        crash = subst (λ (b : Bool). CrashesWhere b steps) (sym up) (spends_are_no_crash (drawn old new));
        puts = left_alone steps;
      }

pub moves_locally : (old new : StoreView) (a : Around) (before after : Devices) (call : Option BucketCall) → IsReading call
    → IsLocal old new before after → Moves old new a before after call
moves_locally old new a before after call reading here c image =
    elim (cases_Bool new.is_down) [
      | inl down ↦ fallen old new a before after call c reading here (here.shows c image) down
      | inr up ↦ standing old new a before after call c reading here (here.shows c image) up
    ]

-- ---- words at exit

none_shared : (said : Said) (k : ℕ) → said.entries ≡ [] → is_named_shared said k ≡ true → ⊥
none_shared said k bare named =
    let some = (and_parts (is_named said k) (is_some (shared_of said.entries k)) named).1 in
    false≢true (ap (λ (entries : Entries). is_some (shared_of entries k)) (sym bare) ∙ some)

-- while no entry stands, words without entries and with no lesser number to be drawn next will do
pub bare_words : (store : StoreView) (said : Said) → store.files.provider.catalogue.entries ≡ [] → said.entries ≡ []
    → store.files.manifest.next ≤ said.version.five.next → MayFallTo store (Some said)
bare_words store said none bare next = record {
  next = next;
  entries = λ k. ap (λ (entries : Entries). shared_of entries k) (bare ∙ sym none);
  held = λ other k same named. absurd (none_shared said k bare
      (subst (λ (s : Said). is_named_shared s k ≡ true) (sym (same_Some said other same)) named));
}

-- a disk that keeps the files says words that the store may fall to
kept_words : (store : StoreView) (disk : Contents) (kept : KeepsFiles store.files disk) → IsReady store.files
    → MayFallTo store (Some (said_of store.files kept.entries))
kept_words store disk kept ready = bare_words store (said_of store.files kept.entries) ready.bare ready.bare ready.next

-- what a later store may fall to, an earlier one may where nothing but numbers was drawn
earlier_falls : (old new : StoreView) (words : Words) → OnlyDraws old new → MayFallTo new words → MayFallTo old words
earlier_falls old new words h fall = record {
  next = omega (arith, h.next, fall.next);
  entries = λ k. fall.entries k ∙ ap (λ (entries : Entries). shared_of entries k) h.entries;
  held = λ said k same named. ap (λ (stages : List (ℕ × Stage)). stage_in stages k) (sym h.stages) ∙ fall.held said k same named;
}

pub shows_kept : (old new : StoreView) (disk : Contents) → IsReady new.files → KeepsFiles new.files disk → OnlyDraws old new
    → (c : Folder) → IsImage disk c → ShowsWords old new c
shows_kept old new disk ready kept h c image =
    let words : Words = Some (said_of new.files kept.entries) in
    record {
      words = words;
      shown = subst (λ id. Says c id (said_of new.files kept.entries)) h.id (image_says new.files disk kept ready c image);
      falls = λ down. earlier_falls old new words h (kept_words new disk kept ready);
    }

-- ---- reads

same_draws : (old new : StoreView) → new.files ≡ old.files → NoMoreUnintended old new → OnlyDraws old new
same_draws old new same fewer = record {
  id = ap (λ (files : StoreFiles). files.provider.catalogue.id) same;
  entries = ap (λ (files : StoreFiles). files.provider.catalogue.entries) same;
  stages = ap (λ (files : StoreFiles). files.provider.stages) same;
  next = subst (λ (files : StoreFiles). old.files.manifest.next ≤ files.manifest.next) (sym same) (omega arith);
  unintended = fewer;
}

pub reads_locally : (old new : StoreView) (before after : Devices) → IsReady old.files → KeepsFiles old.files after.disk → new.files ≡ old.files → NoMoreUnintended old new
    → after.objects ≡ before.objects → IsLocal old new before after
reads_locally old new before after ready kept same fewer objects =
    let draws : OnlyDraws old new = same_draws old new same fewer in
    record {
      objects = objects;
      draws = λ up. draws;
      shows = λ c image. shows_kept old new after.disk (subst IsReady (sym same) ready)
          (subst (λ (files : StoreFiles). KeepsFiles files after.disk) (sym same) kept) draws c image;
    }
