-- A store that isn't open waits for its opening.
use Rattle.std.proofs.Common.{◌≡◌, ℕ, ◌==◌, Bool, true, false, not, Option, Some, None, if◌then◌else◌, refl, sym, ap, ◌∙◌, subst}
use Rattle.std.proofs.lemmas.Bool.{cond-false, both_ways}
use Rattle.pb_rows.specs.Changing.{Changing}
use Rattle.pb_keys.specs.Map.{Map}
use Rattle.pb_reply.specs.declared.refusal.Refusal.{Refusal}
use Rattle.pb_script.specs.declared.line.Lane.{Lane}
use Rattle.pb_script.specs.declared.line.Lane.TheVariants.{Fg, Bg}
use Rattle.pb_script.specs.declared.line.Line.{Line}
use Rattle.pb_script.specs.declared.line.Line.TheVariants as line
use Rattle.pb_machine.specs.Family.{FamilyState, StoreState, Closed, is_open, with_lane, with_store}
use Rattle.pb_machine.specs.Effects.{change_of, effect_of}
use Rattle.pb_machine.specs.Blocks.{block_of}
use Rattle.pb_machine.specs.Causes.{first_cause}
use Rattle.pb_machine.specs.After.{accepted, after_judged, beside, changed_store, line_after, map_with}
use Rattle.pb_machine.specs.Agreement.{StaysShut, opens}
use Rattle.pb_machine.specs.Replies.{refusal_to}
use Rattle.pb_machine.specs.Ran.{Ran}
use Rattle.pb_machine.proofs.Causes.{close_finds, command_finds, no_cause, turn_finds}
use Rattle.pb_machine.proofs.Refused.{Withstands, refused_keeps}
use Rattle.pb_machine.proofs.Stores.{beside_stores, kept_by, put_there, table_stores}

as_it_is : (s : StoreState) → StaysShut s s
as_it_is s shut = record { shut_too = shut; same = record { begun = refl; count = refl; map = refl } }

closed_too : (b : Bool) (s : StoreState) → is_open s ≡ b → StaysShut s (if b then s else record s { phase = Closed })
closed_too true s is = as_it_is s
closed_too false s is = λ shut. record { shut_too = refl; same = record { begun = refl; count = refl; map = refl } }

emptied : (s : StoreState) (lane : Lane) → StaysShut s (with_lane s lane None)
emptied s Fg shut = record { shut_too = shut; same = record { begun = refl; count = refl; map = refl } }
emptied s Bg shut = record { shut_too = shut; same = record { begun = refl; count = refl; map = refl } }

shut_withstands : Withstands StaysShut
shut_withstands = record {
  same = as_it_is;
  falls = λ change s shut. record { shut_too = refl; same = record { begun = refl; count = refl; map = refl } };
  closes = λ s. closed_too (is_open s) s refl;
  empties = emptied;
}

-- a line that was accepted by an open store says nothing of one that isn't
was_open : (s new : StoreState) → is_open s ≡ true → StaysShut s new
was_open s new now shut = absurd (both_ways (is_open s) shut now)

same_store : (s new : StoreState) → new ≡ s → StaysShut s new
same_store s new is = subst (StaysShut s) (sym is) (as_it_is s)

accepted_shut : (family : FamilyState) (line : Line) (ran : Ran) (store : ℕ) → first_cause family line ≡ None → opens line store ≡ false
    → StaysShut (family.stores store) ((accepted family line ran).stores store)
accepted_shut family (line.Open number) ran store none other =
    same_store (family.stores store) _ (cond-false (store == number) _ (family.stores store) other)
accepted_shut family (line.Close number) ran store none other =
    kept_by StaysShut family number store _ (was_open (family.stores number) _ (close_finds family number none)) as_it_is
accepted_shut family (line.Stop number) ran store none other =
    kept_by StaysShut family number store _
    (λ shut. record { shut_too = refl; same = record { begun = refl; count = refl; map = refl } }) as_it_is
accepted_shut family (line.Turn number lane) ran store none other =
    kept_by StaysShut family number store _ (was_open (family.stores number) _ (turn_finds family number lane none)) as_it_is
accepted_shut family (line.Whole number command) ran store none other =
    let besides = beside family number command ran in
    let new = changed_store (change_of (effect_of family command) ran) (family.stores number) in
    subst (λ (s : StoreState). StaysShut s ((with_store besides number new).stores store)) (beside_stores family number command ran store)
    (kept_by StaysShut besides number store new
    (subst (λ (s : StoreState). StaysShut s new) (sym (beside_stores family number command ran number))
    (was_open (family.stores number) new (command_finds family number command none).open_there)) as_it_is)
accepted_shut family (line.Start number command) ran store none other =
    kept_by StaysShut family number store _
    (was_open (family.stores number) _ (command_finds family number command none).open_there) as_it_is
accepted_shut family (line.Table table lines) ran store none other =
    same_store (family.stores store) _ (table_stores family table (block_of lines) store)
accepted_shut family line ran store none other = as_it_is (family.stores store)

judged_shut : (judged : Option Refusal) (family : FamilyState) (line : Line) (ran : Ran) (store : ℕ) → refusal_to family line ran ≡ judged
    → opens line store ≡ false → StaysShut (family.stores store) ((line_after family line ran).stores store)
judged_shut None family line ran store is other =
    subst (λ (judged : Option Refusal). StaysShut (family.stores store) ((after_judged judged family line ran).stores store)) (sym is)
    (accepted_shut family line ran store (no_cause family line ran is) other)
judged_shut (Some refusal) family line ran store is other = refused_keeps StaysShut shut_withstands family line ran refusal store is

pub stays_shut : (family : FamilyState) (line : Line) (ran : Ran) (store : ℕ) → opens line store ≡ false
    → StaysShut (family.stores store) ((line_after family line ran).stores store)
stays_shut family line ran store = judged_shut (refusal_to family line ran) family line ran store refl

first_map : (begun same : Bool) (pending : Option Changing) (m : Map) → begun ≡ false
    → (if not begun then m else if same then m else map_with pending m) ≡ m
first_map false same pending m is = refl
first_map true same pending m is = cc

pub first_opening : (family : FamilyState) (store : ℕ) (ran : Ran) → refusal_to family (line.Open store) ran ≡ None
    → (family.stores store).history.has_begun ≡ false
    → ((line_after family (line.Open store) ran).stores store).history
    ≡ record { has_begun = true; count = ran.mark.count; map = (family.stores store).history.map; pending = None }
first_opening family store ran is begun =
    let h = (family.stores store).history in
    ap (λ (judged : Option Refusal). ((after_judged judged family (line.Open store) ran).stores store).history) is
    ∙ ap (λ (s : StoreState). s.history) (put_there family store _)
    ∙ (λ i. record {
      has_begun = true;
      count = ran.mark.count;
      map = first_map h.has_begun (ran.mark.count == h.count) h.pending h.map begun i;
      pending = None;
    })
