-- A store's history is the fold of its accepted changes.
use Rattle.std.proofs.Common.{◌≡◌, ℕ, ◌+◌, ◌==◌, Bool, true, false, not, List, [], ◌∷◌, ◌++◌, length, Option, Some, None, IsSome, if◌then◌else◌, refl, sym, ap, ◌∙◌, subst, inl, inr, option_to_list, arith, length-append}
use Rattle.std.specs.Prelude.{MatchBool}
use Rattle.std.proofs.lemmas.Bool.{cases_Bool, cond-true, cond-false, eqb-true}
use Rattle.std.proofs.lemmas.Bool.Decides.{nat_tests}
use Rattle.std.proofs.lemmas.Option.{same_Some}
use Rattle.pb_keys.specs.Map.{Map}
use Rattle.pb_rows.specs.Changing.{Changing, after, changed}
use Rattle.pb_reply.specs.declared.refusal.Refusal.{Refusal}
use Rattle.pb_script.specs.declared.line.Lane.{Lane}
use Rattle.pb_script.specs.declared.line.Lane.TheVariants.{Fg, Bg}
use Rattle.pb_script.specs.declared.line.Line.{Line}
use Rattle.pb_script.specs.declared.line.Line.TheVariants as line
use Rattle.pb_machine.specs.Family.{FamilyState, History, StoreState, Started, in_lane, with_lane, with_store}
use Rattle.pb_machine.specs.Effects.{change_of, effect_of, lane_of}
use Rattle.pb_machine.specs.After.{accepted, after_judged, beside, changed_store, effect_in, found_history, line_after, map_with, store_named, started_by}
use Rattle.pb_machine.specs.Agreement.{IsFold}
use Rattle.pb_machine.specs.Replies.{changed_by, refusal_to}
use Rattle.pb_machine.specs.Trail.{FindsAt, FindsHistory, IsHistoryCount, changes_at, changes_in, is_named, own_changes, states_after, unless_refused}
use Rattle.pb_machine.specs.Ran.{Ran}
use Rattle.pb_machine.proofs.Refused.{history_kept}
use Rattle.pb_machine.proofs.Stores.{all_kept, others_kept, put_there}

-- ---- one store

no_change : (old new : History) → new.has_begun ≡ true → new.count ≡ old.count → new.map ≡ old.map → IsFold old [] new
no_change old new begun count map = record { begun = begun; count_is = omega (arith, count); map_is = map }

changed_fold : (change : Option Changing) (h : History) → h.has_begun ≡ true → IsFold h (option_to_list change) (changed_by change h)
changed_fold None h begun = no_change h h begun refl refl
changed_fold (Some change) h begun = record { begun = begun; count_is = omega arith; map_is = refl }

none_some : (change : Option Changing) → change ≡ None → IsSome change → ⊥
none_some None none some = cc
none_some (Some change) none some = cc

clash : (a b : ℕ) → a ≡ b → (a == b) ≡ false → ⊥
clash a b is other = grind (arith, nat_tests)

found_fold : (begun same : Bool) (pending : Option Changing) (m : Map) (count old : ℕ) → begun ≡ true → (same ≡ true → count ≡ old)
    → (same ≡ false → IsSome pending × (count ≡ old + 1))
    → (count ≡ old + length (option_to_list (if not begun then None else if same then None else pending)))
    × ((if not begun then m else if same then m else map_with pending m)
    ≡ changed m (option_to_list (if not begun then None else if same then None else pending)))
found_fold false same pending m count old is one other = cc
found_fold true true pending m count old is one other = (let e = one refl in omega (arith, e), refl)
found_fold true false None m count old is one other = absurd (none_some None refl (other refl).0)
found_fold true false (Some change) m count old is one other = (let e = (other refl).1 in omega (arith, e), refl)

of_match : (b : Bool) (P Q : Type 0) → MatchBool b P Q → b ≡ true → P
of_match true P Q is b = is
of_match false P Q is b = cc

other_count : (h : History) (count : ℕ) → IsHistoryCount h count → (count == h.count) ≡ false → IsSome h.pending × (count ≡ h.count + 1)
other_count h count (inl is) other = absurd (clash count h.count is other)
other_count h count (inr more) other = more

opened_fold : (h : History) (count : ℕ) → h.has_begun ≡ true → IsHistoryCount h count
    → IsFold h (option_to_list (if not h.has_begun then None else if count == h.count then None else h.pending)) (found_history h count)
opened_fold h count begun found =
    let both =
    found_fold h.has_begun (count == h.count) h.pending h.map count h.count begun (eqb-true count h.count)
    (other_count h count found) in
    record { begun = refl; count_is = both.0; map_is = both.1 }

lane_fold : (s : StoreState) (lane : Lane) (started : Option Started) → s.history.has_begun ≡ true
    → IsFold s.history [] (with_lane s lane started).history
lane_fold s Fg started begun = no_change s.history s.history begun refl refl
lane_fold s Bg started begun = no_change s.history s.history begun refl refl

emptied_fold : (s : StoreState) (lane : Lane) (change : Option Changing) → s.history.has_begun ≡ true
    → IsFold s.history (option_to_list change) (with_lane (changed_store change s) lane None).history
emptied_fold s Fg change begun = changed_fold change s.history begun
emptied_fold s Bg change begun = changed_fold change s.history begun

turned_fold : (more : Bool) (s : StoreState) (lane : Lane) (started : Option Started) (change : Option Changing)
    → s.history.has_begun ≡ true
    → IsFold s.history (if more then [] else option_to_list change)
    (if more then with_lane s lane started else with_lane (changed_store change s) lane None).history
turned_fold true s lane started change begun = lane_fold s lane started begun
turned_fold false s lane started change begun = emptied_fold s lane change begun

-- ---- an accepted line, at the store that it names

abbrev Folds : FamilyState → Line → Ran → ℕ → FamilyState → Type 0
Folds family line ran store new = IsFold (family.stores store).history (own_changes family line ran) (new.stores store).history

at_put : (family : FamilyState) (line : Line) (ran : Ran) (base : FamilyState) (number store : ℕ) (new : StoreState)
    → ◌≡◌ {A = Option ℕ} (Some number) (Some store) → IsFold (family.stores number).history (own_changes family line ran) new.history
    → Folds family line ran store (with_store base number new)
at_put family line ran base number store new is fold =
    subst (λ (n : ℕ). Folds family line ran n (with_store base number new)) (same_Some number store is)
    (subst (λ (s : StoreState). IsFold (family.stores number).history (own_changes family line ran) s.history)
    (sym (put_there base number new)) fold)

accepted_fold : (Stand : ℕ → ℕ → Map → Type 0) (family : FamilyState) (line : Line) (ran : Ran) (store : ℕ)
    → store_named family line ≡ Some store
    → (family.stores store).history.has_begun ≡ true → refusal_to family line ran ≡ None → FindsAt Stand family line ran
    → Folds family line ran store (accepted family line ran)
accepted_fold Stand family (line.Open number) ran store is begun taken found =
    let there = subst (λ (n : ℕ). (family.stores n).history.has_begun ≡ true) (sym (same_Some number store is)) begun in
    at_put family (line.Open number) ran family number store _ is
    (opened_fold (family.stores number).history ran.mark.count there
    (of_match (family.stores number).history.has_begun _ _ (found taken) there))
accepted_fold Stand family (line.Close number) ran store is begun taken found =
    let there = subst (λ (n : ℕ). (family.stores n).history.has_begun ≡ true) (sym (same_Some number store is)) begun in
    at_put family (line.Close number) ran family number store _ is
    (no_change (family.stores number).history (family.stores number).history there refl refl)
accepted_fold Stand family (line.Stop number) ran store is begun taken found =
    let there = subst (λ (n : ℕ). (family.stores n).history.has_begun ≡ true) (sym (same_Some number store is)) begun in
    at_put family (line.Stop number) ran family number store _ is
    (no_change (family.stores number).history (family.stores number).history there refl refl)
accepted_fold Stand family (line.Turn number lane) ran store is begun taken found =
    let there = subst (λ (n : ℕ). (family.stores n).history.has_begun ≡ true) (sym (same_Some number store is)) begun in
    at_put family (line.Turn number lane) ran family number store _ is
    (turned_fold ran.mark.more (family.stores number) lane _ (effect_in (in_lane (family.stores number) lane) ran) there)
accepted_fold Stand family (line.Whole number command) ran store is begun taken found =
    let there = subst (λ (n : ℕ). (family.stores n).history.has_begun ≡ true) (sym (same_Some number store is)) begun in
    at_put family (line.Whole number command) ran (beside family number command ran) number store _ is
    (changed_fold (change_of (effect_of family command) ran) (family.stores number).history there)
accepted_fold Stand family (line.Start number command) ran store is begun taken found =
    let there = subst (λ (n : ℕ). (family.stores n).history.has_begun ≡ true) (sym (same_Some number store is)) begun in
    at_put family (line.Start number command) ran family number store _ is
    (lane_fold (family.stores number) (lane_of command) (Some (started_by family command)) there)
accepted_fold Stand family (line.Table table lines) ran store is begun taken found = cc
accepted_fold Stand family line ran store is begun taken found =
    no_change (family.stores store).history (family.stores store).history begun refl refl

-- ---- a line, at any store

kept_fold : (old new : StoreState) → old.history.has_begun ≡ true → new ≡ old → IsFold old.history [] new.history
kept_fold old new begun same =
    subst (λ (s : StoreState). IsFold old.history [] s.history) (sym same) (no_change old.history old.history begun refl refl)

by_name : (named : Option ℕ) (family : FamilyState) (line : Line) (ran : Ran) (store : ℕ) → store_named family line ≡ named
    → (family.stores store).history.has_begun ≡ true
    → (store_named family line ≡ Some store → Folds family line ran store (line_after family line ran))
    → IsFold (family.stores store).history (if is_named named store then own_changes family line ran else [])
    ((line_after family line ran).stores store).history
by_name None family line ran store is begun own =
    kept_fold (family.stores store) ((line_after family line ran).stores store) begun (all_kept family line ran store is)
by_name (Some number) family line ran store is begun own =
    elim (cases_Bool (store == number)) [
      | inl same ↦
          subst
          (λ (changes : List Changing). IsFold (family.stores store).history changes ((line_after family line ran).stores store).history)
          (sym (cond-true (store == number) (own_changes family line ran) [] same))
          (own (is ∙ ap (λ (n : ℕ). Some n) (sym (eqb-true store number same))))
      | inr other ↦
          subst
          (λ (changes : List Changing). IsFold (family.stores store).history changes ((line_after family line ran).stores store).history)
          (sym (cond-false (store == number) (own_changes family line ran) [] other))
          (kept_fold (family.stores store) ((line_after family line ran).stores store) begun (others_kept family line ran number store is other))
    ]

by_judged : (Stand : ℕ → ℕ → Map → Type 0) (judged : Option Refusal) (family : FamilyState) (line : Line) (ran : Ran) (store : ℕ)
    → refusal_to family line ran ≡ judged → (family.stores store).history.has_begun ≡ true → FindsAt Stand family line ran
    → IsFold (family.stores store).history
    (unless_refused judged (if is_named (store_named family line) store then own_changes family line ran else []))
    ((line_after family line ran).stores store).history
by_judged Stand None family line ran store is begun found =
    by_name (store_named family line) family line ran store refl begun
    (λ at. subst (λ (judged : Option Refusal). Folds family line ran store (after_judged judged family line ran)) (sym is)
    (accepted_fold Stand family line ran store at begun is found))
by_judged Stand (Some refusal) family line ran store is begun found =
    let same = history_kept family line ran refusal store is in
    no_change (family.stores store).history ((line_after family line ran).stores store).history (same.begun ∙ begun) same.count same.map

line_fold : (Stand : ℕ → ℕ → Map → Type 0) (family : FamilyState) (line : Line) (ran : Ran) (store : ℕ)
    → (family.stores store).history.has_begun ≡ true → FindsAt Stand family line ran
    → IsFold (family.stores store).history (changes_at family line ran store) ((line_after family line ran).stores store).history
line_fold Stand family line ran store = by_judged Stand (refusal_to family line ran) family line ran store refl

-- ---- many lines

changed-append : (first second : List Changing) (m : Map) → changed m (first ++ second) ≡ changed (changed m first) second
changed-append [] second m = refl
changed-append (change ∷ first) second m = changed-append first second (after m change)

two_folds : (old middle new : History) (first second : List Changing) → IsFold old first middle → IsFold middle second new
    → IsFold old (first ++ second) new
two_folds old middle new first second one two = record {
  begun = two.begun;
  count_is = let a = one.count_is in let b = two.count_is in let l = length-append first second in omega (arith, a, b, l);
  map_is = two.map_is ∙ ap (λ (m : Map). changed m second) one.map_is ∙ sym (changed-append first second old.map);
}

pub history_folds : (Stand : ℕ → ℕ → Map → Type 0) (family : FamilyState) (lines : List Line) (ran : List Ran) (store : ℕ)
    → (family.stores store).history.has_begun ≡ true → FindsHistory Stand family lines ran
    → IsFold (family.stores store).history (changes_in family lines ran store) ((states_after family lines ran).stores store).history
history_folds Stand family lines [] store begun found =
    no_change (family.stores store).history (family.stores store).history begun refl refl
history_folds Stand family [] (ran ∷ more) store begun found =
    no_change (family.stores store).history (family.stores store).history begun refl refl
history_folds Stand family (line ∷ lines) (ran ∷ more) store begun found =
    let first = line_fold Stand family line ran store begun found.0 in
    two_folds (family.stores store).history ((line_after family line ran).stores store).history
    ((states_after (line_after family line ran) lines more).stores store).history
    (changes_at family line ran store) (changes_in (line_after family line ran) lines more store) first
    (history_folds Stand (line_after family line ran) lines more store first.begun found.1)
