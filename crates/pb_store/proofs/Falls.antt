-- A store that falls spends what its folder has used and it hasn't, and crashes.
use Rattle.std.proofs.Common.{◌≡◌, ℕ, ◌+◌, ◌<◌, Bool, true, false, [], ◌∷◌, ◌++◌, Option, Some, None, refl, sym, ap, ◌∙◌, subst, cond, arith}
use Rattle.std.specs.Prelude.{◌==◌, ◌||◌, ◌&&◌, not, is_some, map, nat_lt}
use Rattle.std.specs.List.{find, list_all, list_any}
use Rattle.std.specs.Option.{option_and_then, option_map}
use Rattle.std.proofs.lemmas.Bool.{and_parts, false≢true, lt-ltb, ltb-true, not_from_true}
use Rattle.std.proofs.lemmas.Bool.Decides.{nat_tests}
use Rattle.pb_devices.specs.Objects.{Objects}
use Rattle.pb_folder.specs.Said.{Said}
use Rattle.pb_folder.specs.Shown.{Words, closed_entry, closed_part, is_named, shared_as, shared_of}
use Rattle.pb_marker_world.specs.declared.stages.Stage.{Stage}
use Rattle.pb_marker_world.specs.declared.stages.Stage.TheVariants.{Held, Loose}
use Rattle.pb_marker_world.specs.Machine.{Entry, Local, Part, identity, same_identity}
use Rattle.pb_marker_world.specs.Spending.{spend_each}
use Rattle.pb_marker_world.specs.Steps.{CrashHappens, Reaches, crashed, is_held, is_held_entry, is_held_stage, settled, with_part}
use Rattle.pb_marker_world.specs.Steps.Step.{Crashes}
use Rattle.pb_marker_world.proofs.StepLists.{joined, one_step}
use Rattle.pb_names.specs.Identity.{Identity}
use Rattle.pb_payloads.specs.Catalogue.{Entries, is_of}
use Rattle.pb_payloads.specs.Catalogued.{Standing}
use Rattle.pb_store.specs.Around.{Around, awaits_check, entry_of, is_used, lender_in, shown_entry, shown_lender, shown_part, stage_in}
use Rattle.pb_store.specs.Devices.{seen_by}
use Rattle.pb_store.specs.Moves.{MayFallTo, is_named_shared, named_in, next_in, unspent}
use Rattle.pb_store.specs.View.{StoreView, id_of, unintended_in}
use Rattle.pb_store.proofs.Spends.{all_kept, among, same_part, spent_to}

-- ---- used numbers

-- each is below the number that is drawn next
pub used_below : (store : StoreView) (k : ℕ) → is_used store k ≡ true → k < store.files.manifest.next
used_below store k h =
    ltb-true k store.files.manifest.next
    (and_parts (nat_lt k store.files.manifest.next) (not (list_any (λ n. n == k) (unintended_in store))) h).0

spent_or_used : (used low : Bool) → (used ≡ true → low ≡ true) → ((not used && low) || used) ≡ low
spent_or_used true low h = sym (h refl)
spent_or_used false true h = refl
spent_or_used false false h = refl

closed_used : (opening : ℕ) (words : Words) (k : ℕ) → (closed_part opening words).used k ≡ nat_lt k (next_in words)
closed_used opening None k = grind (arith, nat_tests)
closed_used opening (Some said) k = refl

closed_opening : (opening : ℕ) (words : Words) → (closed_part opening words).opening ≡ opening
closed_opening opening None = refl
closed_opening opening (Some said) = refl

-- ---- entries that are kept

some_found : (found : Option (ℕ × Standing)) → is_some (option_and_then (λ entry. shared_as entry.1) found) ≡ true → is_some found ≡ true
some_found None h = absurd (false≢true h)
some_found (Some entry) h = refl

found_stands : (k : ℕ) (entries : Entries) → is_some (find (is_of k) entries) ≡ true → list_any (λ n. n == k) (map (λ entry. entry.0) entries) ≡ true
found_stands k [] h = absurd (false≢true h)
found_stands k (entry ∷ entries) h = of_cond (entry.0 == k) h (found_stands k entries)
  where
    of_cond : (b : Bool) → is_some (cond b (Some entry) (find (is_of k) entries)) ≡ true
        → (is_some (find (is_of k) entries) ≡ true → list_any (λ n. n == k) (map (λ e. e.0) entries) ≡ true)
        → (b || list_any (λ n. n == k) (map (λ e. e.0) entries)) ≡ true
    of_cond true e rest = refl
    of_cond false e rest = rest e

absorbed : (p any : Bool) → (p ≡ true → any ≡ true) → (p && any) ≡ p
absorbed true any h = h refl
absorbed false any h = refl

-- kept are exactly the numbers of shared entries that the version names
kept_are : (said : Said) (k : ℕ) → list_any (λ n. n == k) (named_in (Some said)) ≡ is_named_shared said k
kept_are said k =
    among (is_named_shared said) (map (λ entry. entry.0) said.entries) k
    ∙ absorbed (is_named_shared said k) (list_any (λ n. n == k) (map (λ entry. entry.0) said.entries))
    (λ h. found_stands k said.entries
    (some_found (find (is_of k) said.entries) (and_parts (is_named said k) (is_some (shared_of said.entries k)) h).1))

no_lender : (store : StoreView) (a : Around) (k : ℕ) (object : Identity) → stage_in store.files.provider.stages k ≡ Held
    → shown_lender store a k object ≡ None
no_lender store a k object held =
    ap (λ (stage : Stage). cond (awaits_check stage && not (same_identity object (identity (id_of store) k))) (lender_in a.lent object) None) held

-- what the crash makes of an entry is what the folder shows of it
module _ (store : StoreView) (a : Around) (said : Said) (k : ℕ) where
  held_entry : (object : Identity) → is_named said k ≡ true → stage_in store.files.provider.stages k ≡ Held
      → closed_entry said k object ≡ entry_of store a k object
  held_entry object named held =
      λ i. record {
        object = object;
        lender = sym (no_lender store a k object held) i;
        stage = (ap (λ (b : Bool). cond b Held Loose) named ∙ sym held) i;
      }

  loose_entry : (object : Identity) → is_named said k ≡ false → closed_entry said k object ≡ settled (entry_of store a k object) Loose
  loose_entry object unnamed = λ i. record { object = object; lender = None; stage = ap (λ (b : Bool). cond b Held Loose) unnamed i }

  entry_left : (shared : Option Identity) (kept : Bool) → kept ≡ (is_named said k && is_some shared)
      → ((is_named said k && is_some shared) ≡ true → stage_in store.files.provider.stages k ≡ Held)
      → option_map (closed_entry said k) shared
      ≡ cond kept (option_map (entry_of store a k) shared) (option_map (λ (e : Entry). settled e Loose) (option_map (entry_of store a k) shared))
  entry_left None true e held = refl
  entry_left None false e held = refl
  entry_left (Some object) true e held =
      ap Some (held_entry object (and_parts (is_named said k) true (sym e)).0 (held (sym e)))
  entry_left (Some object) false e held = ap Some (loose_entry object (unnamed (is_named said k) (sym e)))
    where
      unnamed : (b : Bool) → (b && true) ≡ false → b ≡ false
      unnamed true h = h
      unnamed false h = refl

crashed_entry : (store : StoreView) (a : Around) (words : Words) (opening k : ℕ) → MayFallTo store words
    → (closed_part opening words).entries k
    ≡ cond (list_any (λ n. n == k) (named_in words)) (shown_entry store a k) (option_map (λ (e : Entry). settled e Loose) (shown_entry store a k))
crashed_entry store a None opening k h =
    sym (subst
    (λ (shared : Option Identity). option_map (λ (e : Entry). settled e Loose) (option_map (entry_of store a k) shared) ≡ None)
    (h.entries k) refl)
crashed_entry store a (Some said) opening k h =
    subst
    (λ (shared : Option Identity). option_map (closed_entry said k) (shared_of said.entries k)
    ≡ cond (list_any (λ n. n == k) (named_in (Some said))) (option_map (entry_of store a k) shared)
    (option_map (λ (e : Entry). settled e Loose) (option_map (entry_of store a k) shared)))
    (h.entries k)
    (entry_left store a said k (shared_of said.entries k) (list_any (λ n. n == k) (named_in (Some said))) (kept_are said k)
    (λ named. h.held said k refl named))

-- ---- what is kept is Held

held_there : (store : StoreView) (a : Around) (k : ℕ) (shared : Option Identity) → is_some shared ≡ true
    → stage_in store.files.provider.stages k ≡ Held → is_held_entry (option_map (entry_of store a k) shared) ≡ true
held_there store a k None some held = absurd (false≢true some)
held_there store a k (Some object) some held = ap is_held_stage held

kept_are_held : (store : StoreView) (a : Around) (words : Words) (part : Part) → part.entries ≡ shown_entry store a → MayFallTo store words
    → list_all (is_held part) (named_in words) ≡ true
kept_are_held store a None part same h = refl
kept_are_held store a (Some said) part same h =
    all_kept (is_named_shared said) (is_held part)
    (λ k named. ap (λ (entries : ℕ → Option Entry). is_held_entry (entries k)) same
    ∙ held_there store a k (shared_of store.files.provider.catalogue.entries k)
    (ap is_some (sym (h.entries k)) ∙ (and_parts (is_named said k) (is_some (shared_of said.entries k)) named).1)
    (h.held said k refl named))
    (map (λ entry. entry.0) said.entries)

-- ---- the fall

pub falls : (store : StoreView) (a : Around) (words : Words) (objects : Objects) → MayFallTo store words
    → Reaches (id_of store) (seen_by (shown_part store a) objects a) (spend_each (unspent store words) ++ Crashes (named_in words) ∷ [])
    (seen_by (closed_part (a.opening + 1) words) objects a)
falls store a words objects h =
    let first : Local = seen_by (shown_part store a) objects a in
    let part : Part = record { opening = a.opening; used = λ k. nat_lt k (next_in words); entries = shown_entry store a } in
    let between : Local = with_part first part in
    let spent : Reaches (id_of store) first (spend_each (unspent store words)) between =
    spent_to (id_of store) (next_in words) (λ k. not (is_used store k)) (λ k. nat_lt k (next_in words)) first
    (λ k used. not_from_true (is_used store k) used)
    (λ k. spent_or_used (is_used store k) (nat_lt k (next_in words))
    (λ used. lt-ltb k (next_in words) (omega (arith, used_below store k used, h.next)))) in
    let left : closed_part (a.opening + 1) words ≡ crashed part (named_in words) =
    same_part (closed_part (a.opening + 1) words) (crashed part (named_in words)) (closed_opening (a.opening + 1) words)
    (closed_used (a.opening + 1) words) (λ k. crashed_entry store a words (a.opening + 1) k h) in
    let crash : CrashHappens between (named_in words) (seen_by (closed_part (a.opening + 1) words) objects a) =
    record { held = kept_are_held store a words part refl h; left = ap (λ (p : Part). seen_by p objects a) left } in
    joined (id_of store) first between (seen_by (closed_part (a.opening + 1) words) objects a) (spend_each (unspent store words))
    (Crashes (named_in words) ∷ []) spent
    (one_step (id_of store) between (seen_by (closed_part (a.opening + 1) words) objects a) (Crashes (named_in words)) crash)
