-- What refused lines leave.
use Rattle.std.proofs.Common.{◌≡◌, ℕ, ◌+◌, ◌==◌, Bool, true, false, Option, Some, None, if◌then◌else◌, refl, sym, ap, ◌∙◌, subst}
use Rattle.std.proofs.lemmas.Bool.{cond-true, cond-false}
use Rattle.std.proofs.lemmas.Option.{same_Some}
use Rattle.pb_rows.specs.Changing.{Changing}
use Rattle.pb_reply.specs.declared.refusal.Refusal.{Refusal}
use Rattle.pb_script.specs.declared.line.Lane.{Lane}
use Rattle.pb_script.specs.declared.line.Lane.TheVariants.{Fg, Bg}
use Rattle.pb_script.specs.declared.line.Line.{Line}
use Rattle.pb_script.specs.declared.line.Line.TheVariants as line
use Rattle.pb_machine.specs.Family.{FamilyState, StoreState, Started, is_open, with_lane}
use Rattle.pb_machine.specs.Blocks.{block_of}
use Rattle.pb_machine.specs.Effects.{change_of, effect_of, lane_of}
use Rattle.pb_machine.specs.After.{accepted, after_judged, beside, changed_store, closed, fallen, fallen_at, has_fallen, has_fallen_at, left_closed, line_after, pending_by, started_by, store_named, turned, withstood}
use Rattle.pb_machine.specs.Agreement.{HasFallen, IsStopped, SameHistory, opens}
use Rattle.pb_machine.specs.Replies.{refusal_to}
use Rattle.pb_machine.specs.Ran.{Ran}
use Rattle.pb_machine.proofs.Stores.{kept_by, put_there, beside_stores, table_stores}

-- ---- relations that a refusal keeps

same_history : (s : StoreState) → SameHistory s s
same_history s = record { begun = refl; count = refl; map = refl }

with_lane_history : (s : StoreState) (lane : Lane) (started : Option Started) → SameHistory s (with_lane s lane started)
with_lane_history s Fg started = record { begun = refl; count = refl; map = refl }
with_lane_history s Bg started = record { begun = refl; count = refl; map = refl }

left_by : (b : Bool) (Kept : StoreState → StoreState → Type 0) (s : StoreState) (other : StoreState) → Kept s s → Kept s other
    → Kept s (if b then s else other)
left_by true Kept s other same closed_too = same
left_by false Kept s other same closed_too = closed_too

-- a fact that falling, closing and an empty lane keep
pub record Withstands (Kept : StoreState → StoreState → Type 0) : Type 0 where
  pub same : (s : StoreState) → Kept s s
  pub falls : (change : Option Changing) (s : StoreState) → Kept s (fallen change s)
  pub closes : (s : StoreState) → Kept s (left_closed s)
  pub empties : (s : StoreState) (lane : Lane) → Kept s (with_lane s lane None)

fallen_keeps : (Kept : StoreState → StoreState → Type 0) → Withstands Kept
    → (family : FamilyState) (line : Line) (ran : Ran) (found : Option ℕ)
    (store : ℕ) → Kept (family.stores store) ((fallen_at family line ran found).stores store)
fallen_keeps Kept all family line ran None store = all.same (family.stores store)
fallen_keeps Kept all family line ran (Some number) store =
    kept_by Kept family number store (fallen (pending_by family line ran) (family.stores number))
    (all.falls (pending_by family line ran) (family.stores number)) all.same

withstood_keeps : (Kept : StoreState → StoreState → Type 0) → Withstands Kept → (family : FamilyState) (line : Line) (store : ℕ)
    → Kept (family.stores store) ((withstood family line).stores store)
withstood_keeps Kept all family (line.Open number) store =
    kept_by Kept family number store (left_closed (family.stores number)) (all.closes (family.stores number)) all.same
withstood_keeps Kept all family (line.Turn number lane) store =
    kept_by Kept family number store (with_lane (family.stores number) lane None) (all.empties (family.stores number) lane) all.same
withstood_keeps Kept all family line store = all.same (family.stores store)

either_keeps : (b : Bool) (Kept : StoreState → StoreState → Type 0) (x y : FamilyState) (old : StoreState) (store : ℕ)
    → Kept old (x.stores store) → Kept old (y.stores store) → Kept old ((if b then x else y).stores store)
either_keeps true Kept x y old store first second = first
either_keeps false Kept x y old store first second = second

pub refused_keeps : (Kept : StoreState → StoreState → Type 0) → Withstands Kept → (family : FamilyState) (line : Line) (ran : Ran)
    (refusal : Refusal) (store : ℕ) → refusal_to family line ran ≡ Some refusal
    → Kept (family.stores store) ((line_after family line ran).stores store)
refused_keeps Kept all family line ran refusal store is =
    subst (λ (judged : Option Refusal). Kept (family.stores store) ((after_judged judged family line ran).stores store)) (sym is)
    (either_keeps (has_fallen_at family ran (store_named family line)) Kept (fallen_at family line ran (store_named family line))
    (withstood family line) (family.stores store) store
    (fallen_keeps Kept all family line ran (store_named family line) store) (withstood_keeps Kept all family line store))

history_withstands : Withstands SameHistory
history_withstands = record {
  same = same_history;
  falls = λ change s. record { begun = refl; count = refl; map = refl };
  closes = λ s. left_by (is_open s) SameHistory s _ (same_history s) (record { begun = refl; count = refl; map = refl });
  empties = λ s lane. with_lane_history s lane None;
}

pub history_kept : (family : FamilyState) (line : Line) (ran : Ran) (refusal : Refusal) (store : ℕ)
    → refusal_to family line ran ≡ Some refusal
    → SameHistory (family.stores store) ((line_after family line ran).stores store)
history_kept = refused_keeps SameHistory history_withstands

-- ---- openings

abbrev SameOpening : StoreState → StoreState → Type 0
SameOpening old new = new.opening ≡ old.opening

lane_opening : (s : StoreState) (lane : Lane) (started : Option Started) → SameOpening s (with_lane s lane started)
lane_opening s Fg started = refl
lane_opening s Bg started = refl

opening_withstands : Withstands SameOpening
opening_withstands = record {
  same = λ s. refl;
  falls = λ change s. refl;
  closes = λ s. left_by (is_open s) SameOpening s _ refl refl;
  empties = λ s lane. lane_opening s lane None;
}

pub opening_kept : (family : FamilyState) (line : Line) (ran : Ran) (refusal : Refusal) (store : ℕ)
    → refusal_to family line ran ≡ Some refusal
    → ((line_after family line ran).stores store).opening ≡ (family.stores store).opening
opening_kept = refused_keeps SameOpening opening_withstands

pub opening_rises : (family : FamilyState) (store : ℕ) (ran : Ran) → refusal_to family (line.Open store) ran ≡ None
    → ((line_after family (line.Open store) ran).stores store).opening ≡ (family.stores store).opening + 1
opening_rises family store ran is =
    ap (λ (judged : Option Refusal). ((after_judged judged family (line.Open store) ran).stores store).opening) is
    ∙ ap (λ (s : StoreState). s.opening) (put_there family store _)

turned_opening : (b : Bool) (s : StoreState) (lane : Lane) (started : Option Started) (change : Option Changing)
    → (if b then with_lane s lane started else with_lane (changed_store change s) lane None).opening ≡ s.opening
turned_opening true s Fg started change = refl
turned_opening true s Bg started change = refl
turned_opening false s Fg started change = refl
turned_opening false s Bg started change = refl

accepted_opening : (family : FamilyState) (line : Line) (ran : Ran) (store : ℕ) → opens line store ≡ false
    → SameOpening (family.stores store) ((accepted family line ran).stores store)
accepted_opening family (line.Open number) ran store other =
    ap (λ (s : StoreState). s.opening) (cond-false (store == number) _ (family.stores store) other)
accepted_opening family (line.Close number) ran store other = kept_by SameOpening family number store _ refl (λ s. refl)
accepted_opening family (line.Stop number) ran store other = kept_by SameOpening family number store _ refl (λ s. refl)
accepted_opening family (line.Turn number lane) ran store other =
    kept_by SameOpening family number store (turned (family.stores number) lane ran)
    (turned_opening ran.mark.more (family.stores number) lane _ _) (λ s. refl)
accepted_opening family (line.Whole number command) ran store other =
    let besides = beside family number command ran in
    let whole = changed_store (change_of (effect_of family command) ran) (family.stores number) in
    kept_by SameOpening besides number store whole
    (ap (λ (s : StoreState). s.opening) (sym (beside_stores family number command ran number))) (λ s. refl)
    ∙ ap (λ (s : StoreState). s.opening) (beside_stores family number command ran store)
accepted_opening family (line.Start number command) ran store other =
    kept_by SameOpening family number store _ (lane_opening (family.stores number) (lane_of command) (Some (started_by family command)))
    (λ s. refl)
accepted_opening family (line.Table table lines) ran store other =
    ap (λ (s : StoreState). s.opening) (table_stores family table (block_of lines) store)
accepted_opening family line ran store other = refl

judged_opening : (judged : Option Refusal) (family : FamilyState) (line : Line) (ran : Ran) (store : ℕ)
    → refusal_to family line ran ≡ judged
    → opens line store ≡ false → SameOpening (family.stores store) ((line_after family line ran).stores store)
judged_opening None family line ran store is other =
    ap (λ (judged : Option Refusal). ((after_judged judged family line ran).stores store).opening) is
    ∙ accepted_opening family line ran store other
judged_opening (Some refusal) family line ran store is other = opening_kept family line ran refusal store is

pub openings_stay : (family : FamilyState) (line : Line) (ran : Ran) (store : ℕ) → opens line store ≡ false
    → ((line_after family line ran).stores store).opening ≡ (family.stores store).opening
openings_stay family line ran store other = judged_opening (refusal_to family line ran) family line ran store refl other

-- ---- falls

fallen_there : (family : FamilyState) (line : Line) (ran : Ran) (found : Option ℕ) (store : ℕ) → found ≡ Some store
    → has_fallen family ran store ≡ true
    → HasFallen (pending_by family line ran)
    ((if has_fallen_at family ran found then fallen_at family line ran found else withstood family line).stores store)
fallen_there family line ran None store is fell = cc
fallen_there family line ran (Some number) store is fell =
    let same = same_Some number store is in
    let there : has_fallen family ran number ≡ true = ap (has_fallen family ran) same ∙ fell in
    let new = fallen (pending_by family line ran) (family.stores number) in
    let after = fallen_at family line ran (Some number) in
    subst (λ (s : StoreState). HasFallen (pending_by family line ran) s)
    (sym (ap (λ (f : FamilyState). f.stores store) (cond-true (has_fallen family ran number) after (withstood family line) there)
    ∙ ap (λ (n : ℕ). after.stores n) (sym same) ∙ put_there family number new))
    (record { phase = refl; pending = refl; lanes = (refl, refl) })

pub fall_is : (family : FamilyState) (line : Line) (ran : Ran) (refusal : Refusal) (store : ℕ) → refusal_to family line ran ≡ Some refusal
    → store_named family line ≡ Some store → has_fallen family ran store ≡ true
    → HasFallen (pending_by family line ran) ((line_after family line ran).stores store)
fall_is family line ran refusal store is at fell =
    subst (λ (judged : Option Refusal). HasFallen (pending_by family line ran) ((after_judged judged family line ran).stores store))
    (sym is)
    (fallen_there family line ran (store_named family line) store at fell)

pub stop_is : (family : FamilyState) (store : ℕ) (ran : Ran) → refusal_to family (line.Stop store) ran ≡ None
    → IsStopped (family.stores store) ((line_after family (line.Stop store) ran).stores store)
stop_is family store ran is =
    subst (λ (judged : Option Refusal). IsStopped (family.stores store) ((after_judged judged family (line.Stop store) ran).stores store))
    (sym is)
    (subst (λ (s : StoreState). IsStopped (family.stores store) s) (sym (put_there family store (closed (family.stores store))))
    (record { phase = refl; history = refl; lanes = (refl, refl) }))
