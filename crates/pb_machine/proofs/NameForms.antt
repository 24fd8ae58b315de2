-- Handles and pins stay in form.
use Rattle.std.proofs.Common.{◌≡◌, ℕ, ◌+◌, ◌≤◌, ◌==◌, Bool, true, false, not, List, Option, Some, None, if◌then◌else◌, refl, sym, ap, ◌∙◌, subst, inl, inr, arith}
use Rattle.std.specs.List.{AllByRecursion}
use Rattle.std.proofs.lemmas.Bool.{cases_Bool, cond-false, eqb-true, not-true, both_ways}
use Rattle.pb_rows.specs.Changing.{Changing}
use Rattle.pb_reply.specs.declared.refusal.Refusal.{Refusal}
use Rattle.pb_script.specs.declared.command.Command.{Command}
use Rattle.pb_script.specs.declared.command.Command.TheVariants as command
use Rattle.pb_script.specs.declared.line.Lane.{Lane}
use Rattle.pb_script.specs.declared.line.Lane.TheVariants.{Fg, Bg}
use Rattle.pb_script.specs.declared.line.Line.{Line}
use Rattle.pb_script.specs.declared.line.Line.TheVariants as line
use Rattle.pb_machine.specs.Named.{Named, without}
use Rattle.pb_machine.specs.Family.{FamilyState, HandleState, PinState, StoreState, Started, Closed, is_open, with_lane, with_store}
use Rattle.pb_machine.specs.Effects.{change_of, effect_of, lane_of}
use Rattle.pb_machine.specs.Blocks.{BlockRead, Makes, Bad, block_of}
use Rattle.pb_machine.specs.Causes.{first_cause}
use Rattle.pb_machine.specs.After.{accepted, after_judged, beside, changed_store, ended, fallen_at, has_fallen_at, left_closed, line_after, other_pins, store_named, started_by, turned, with_table, withstood}
use Rattle.pb_machine.specs.Agreement.{IsHandle, IsPin}
use Rattle.pb_machine.specs.Replies.{refusal_to}
use Rattle.pb_machine.specs.Ran.{Ran}
use Rattle.pb_machine.proofs.Causes.{command_finds, open_finds}
use Rattle.pb_machine.proofs.Names.{all-put, all-filter, all_by, all_passed}
use Rattle.pb_machine.proofs.Refused.{opening_kept, opening_rises, openings_stay}
use Rattle.pb_machine.proofs.Stores.{beside_stores, kept_by}

-- ---- pins

-- the store is open or not as it was, in the same opening
pub record SamePlace (old new : StoreState) : Type 0 where
  pub open_too : is_open new ≡ is_open old
  pub opening_too : new.opening ≡ old.opening

same_place : (s : StoreState) → SamePlace s s
same_place s = record { open_too = refl; opening_too = refl }

pin_there : (f g : FamilyState) (pin : PinState) → SamePlace (f.stores pin.store) (g.stores pin.store) → IsPin f pin → IsPin g pin
pin_there f g pin same is = record { there = same.open_too ∙ is.there; opening_is = is.opening_is ∙ sym same.opening_too }

-- the same pins, over stores that are where they were
pins_stay : (f g : FamilyState) → ((n : ℕ) → SamePlace (f.stores n) (g.stores n)) → (pins : Named PinState)
    → AllByRecursion (λ pin. IsPin f pin.1) pins → AllByRecursion (λ pin. IsPin g pin.1) pins
pins_stay f g same pins all = all_by _ _ pins (λ pin is. pin_there f g pin.1 (same pin.1.store) is) all

-- the pins of other stores
pins_of_others : (family : FamilyState) (number : ℕ) (new : StoreState) → AllByRecursion (λ pin. IsPin family pin.1) family.pins
    → AllByRecursion (λ pin. IsPin (ended family number new) pin.1) (other_pins number family.pins)
pins_of_others family number new all =
    all_passed _ _ (λ pin. not (pin.1.store == number)) family.pins
    (λ pin is other. pin_there family (ended family number new) pin.1
    (let kept = cond-false (pin.1.store == number) new (family.stores pin.1.store) (not-true (pin.1.store == number) other) in
    record { open_too = ap is_open kept; opening_too = ap (λ (s : StoreState). s.opening) kept }) is)
    all

-- a store that isn't open has no pin
pins_off : (family : FamilyState) (number : ℕ) (new : StoreState) → is_open (family.stores number) ≡ false
    → AllByRecursion (λ pin. IsPin family pin.1) family.pins
    → AllByRecursion (λ pin. IsPin (with_store family number new) pin.1) family.pins
pins_off family number new shut all =
    all_by _ _ family.pins
    (λ pin is. elim (cases_Bool (pin.1.store == number)) [
      | inl same ↦ absurd (both_ways (is_open (family.stores number)) shut
          (subst (λ (n : ℕ). is_open (family.stores n) ≡ true) (eqb-true pin.1.store number same) is.there))
      | inr other ↦ pin_there family (with_store family number new) pin.1
          (let kept = cond-false (pin.1.store == number) new (family.stores pin.1.store) other in
          record { open_too = ap is_open kept; opening_too = ap (λ (s : StoreState). s.opening) kept }) is
    ])
    all

put_place : (family : FamilyState) (number : ℕ) (new : StoreState) → SamePlace (family.stores number) new
    → (n : ℕ) → SamePlace (family.stores n) ((with_store family number new).stores n)
put_place family number new same n = kept_by SamePlace family number n new same same_place

lane_place : (s : StoreState) (lane : Lane) (started : Option Started) → SamePlace s (with_lane s lane started)
lane_place s Fg started = record { open_too = refl; opening_too = refl }
lane_place s Bg started = record { open_too = refl; opening_too = refl }

emptied_place : (s : StoreState) (lane : Lane) (change : Option Changing) → SamePlace s (with_lane (changed_store change s) lane None)
emptied_place s Fg change = record { open_too = refl; opening_too = refl }
emptied_place s Bg change = record { open_too = refl; opening_too = refl }

turned_place : (more : Bool) (s : StoreState) (lane : Lane) (started : Option Started) (change : Option Changing)
    → SamePlace s (if more then with_lane s lane started else with_lane (changed_store change s) lane None)
turned_place true s lane started change = lane_place s lane started
turned_place false s lane started change = emptied_place s lane change

closed_place : (b : Bool) (s : StoreState) → is_open s ≡ b → SamePlace s (if b then s else record s { phase = Closed })
closed_place true s is = same_place s
closed_place false s is = record { open_too = sym is; opening_too = refl }

abbrev PinsStay : FamilyState → Type 0
PinsStay family = AllByRecursion (λ pin. IsPin family pin.1) family.pins

-- of a whole command the store's place stays
whole_place : (family : FamilyState) (number : ℕ) (command : Command) (ran : Ran) (n : ℕ)
    → SamePlace (family.stores n)
    ((with_store (beside family number command ran) number
    (changed_store (change_of (effect_of family command) ran) (family.stores number))).stores n)
whole_place family number command ran n =
    let besides = beside family number command ran in
    let new = changed_store (change_of (effect_of family command) ran) (family.stores number) in
    subst (λ (s : StoreState). SamePlace s ((with_store besides number new).stores n)) (beside_stores family number command ran n)
    (put_place besides number new
    (subst (λ (s : StoreState). SamePlace s new) (sym (beside_stores family number command ran number))
    (record { open_too = refl; opening_too = refl })) n)

whole_pins : (family : FamilyState) (number : ℕ) (command : Command) (ran : Ran) → PinsStay family → is_open (family.stores number) ≡ true
    → (g : FamilyState) → ((n : ℕ) → SamePlace (family.stores n) (g.stores n))
    → AllByRecursion (λ pin. IsPin g pin.1) (beside family number command ran).pins
whole_pins family number (command.Pin pin) ran all now g same =
    all-put (λ pin. IsPin g pin.1) family.pins pin _ (pins_stay family g same family.pins all)
    (record { there = (same number).open_too ∙ now; opening_is = sym (same number).opening_too })
whole_pins family number (command.Lend words) ran all now g same = pins_stay family g same family.pins all
whole_pins family number command ran all now g same = pins_stay family g same family.pins all

table_pins : (family : FamilyState) (table : List ℕ) (read : BlockRead) → PinsStay family → PinsStay (with_table family table read)
table_pins family table (Makes layer) all =
    pins_stay family (with_table family table (Makes layer)) (λ n. same_place (family.stores n)) family.pins all
table_pins family table (Bad at) all = all

accepted_pins : (family : FamilyState) (line : Line) (ran : Ran) → PinsStay family → first_cause family line ≡ None
    → PinsStay (accepted family line ran)
accepted_pins family (line.Open number) ran all none =
    pins_off family number _ (open_finds family number none) all
accepted_pins family (line.Close number) ran all none = pins_of_others family number _ all
accepted_pins family (line.Stop number) ran all none = pins_of_others family number _ all
accepted_pins family (line.Turn number lane) ran all none =
    pins_stay family (with_store family number (turned (family.stores number) lane ran))
    (put_place family number _ (turned_place ran.mark.more (family.stores number) lane _ _)) family.pins all
accepted_pins family (line.Whole number command) ran all none =
    whole_pins family number command ran all (command_finds family number command none).open_there
    (with_store (beside family number command ran) number (changed_store (change_of (effect_of family command) ran) (family.stores number)))
    (whole_place family number command ran)
accepted_pins family (line.Start number command) ran all none =
    let new = with_lane (family.stores number) (lane_of command) (Some (started_by family command)) in
    pins_stay family (with_store family number new)
    (put_place family number new (lane_place (family.stores number) (lane_of command) (Some (started_by family command)))) family.pins all
accepted_pins family (line.Table table lines) ran all none = table_pins family table (block_of lines) all
accepted_pins family (line.DropHandle handle) ran all none =
    pins_stay family (accepted family (line.DropHandle handle) ran) (λ n. same_place (family.stores n)) family.pins all
accepted_pins family (line.Unpin pin) ran all none =
    pins_stay family (accepted family (line.Unpin pin) ran) (λ n. same_place (family.stores n)) (without family.pins pin)
    (all-filter (λ pin. IsPin family pin.1) _ family.pins all)
accepted_pins family line ran all none = all

fallen_pins : (family : FamilyState) (line : Line) (ran : Ran) (found : Option ℕ) → PinsStay family
    → PinsStay (fallen_at family line ran found)
fallen_pins family line ran None all = all
fallen_pins family line ran (Some number) all = pins_of_others family number _ all

withstood_pins : (family : FamilyState) (line : Line) → PinsStay family → PinsStay (withstood family line)
withstood_pins family (line.Open number) all =
    pins_stay family (with_store family number (left_closed (family.stores number)))
    (put_place family number _ (closed_place (is_open (family.stores number)) (family.stores number) refl)) family.pins all
withstood_pins family (line.Turn number lane) all =
    pins_stay family (with_store family number (with_lane (family.stores number) lane None))
    (put_place family number _ (lane_place (family.stores number) lane None)) family.pins all
withstood_pins family line all = all

either_pins : (b : Bool) (x y : FamilyState) → PinsStay x → PinsStay y → PinsStay (if b then x else y)
either_pins true x y first second = first
either_pins false x y first second = second

judged_pins : (judged : Option Refusal) (family : FamilyState) (line : Line) (ran : Ran) → PinsStay family
    → (judged ≡ None → first_cause family line ≡ None) → PinsStay (after_judged judged family line ran)
judged_pins None family line ran all none = accepted_pins family line ran all (none refl)
judged_pins (Some refusal) family line ran all none =
    either_pins (has_fallen_at family ran (store_named family line)) (fallen_at family line ran (store_named family line))
    (withstood family line)
    (fallen_pins family line ran (store_named family line) all) (withstood_pins family line all)

pub pins_in_form : (family : FamilyState) (line : Line) (ran : Ran) → PinsStay family
    → (refusal_to family line ran ≡ None → first_cause family line ≡ None) → PinsStay (line_after family line ran)
pins_in_form family line ran = judged_pins (refusal_to family line ran) family line ran

-- ---- handles

-- openings never fall
same_upto : (a b : ℕ) → b ≡ a → a ≤ b
same_upto a b is = omega (arith, is)

one_upto : (a b : ℕ) → b ≡ a + 1 → a ≤ b
one_upto a b is = omega (arith, is)

opened_upto : (family : FamilyState) (number : ℕ) (ran : Ran) (store : ℕ) (judged : Option Refusal)
    → refusal_to family (line.Open number) ran ≡ judged
    → (store == number) ≡ true → (family.stores store).opening ≤ ((line_after family (line.Open number) ran).stores store).opening
opened_upto family number ran store None is same =
    subst (λ (n : ℕ). (family.stores store).opening ≤ ((line_after family (line.Open n) ran).stores store).opening)
    (eqb-true store number same)
    (one_upto _ _ (opening_rises family store ran
    (subst (λ (n : ℕ). refusal_to family (line.Open n) ran ≡ None) (sym (eqb-true store number same)) is)))
opened_upto family number ran store (Some refusal) is same =
    same_upto _ _ (opening_kept family (line.Open number) ran refusal store is)

pub openings_upto : (family : FamilyState) (line : Line) (ran : Ran) (store : ℕ)
    → (family.stores store).opening ≤ ((line_after family line ran).stores store).opening
openings_upto family (line.Open number) ran store =
    elim (cases_Bool (store == number)) [
      | inl same ↦ opened_upto family number ran store (refusal_to family (line.Open number) ran) refl same
      | inr other ↦ same_upto _ _ (openings_stay family (line.Open number) ran store other)
    ]
openings_upto family line ran store = same_upto _ _ (openings_stay family line ran store refl)

more_upto : (a b c : ℕ) → a ≤ b → b ≤ c → a ≤ c
more_upto a b c one two = omega (arith, one, two)

abbrev Handles : FamilyState → Named HandleState → Type 0
Handles family handles = AllByRecursion (λ handle. IsHandle family handle.1) handles

handles_stay : (f g : FamilyState) → ((n : ℕ) → (f.stores n).opening ≤ (g.stores n).opening) → (handles : Named HandleState)
    → Handles f handles → Handles g handles
handles_stay f g rises handles all =
    all_by _ _ handles (λ handle is. more_upto _ _ _ is (rises handle.1.lender)) all

lent_handles : (family : FamilyState) (number : ℕ) (command : Command) (ran : Ran) (g : FamilyState)
    → ((n : ℕ) → (family.stores n).opening ≤ (g.stores n).opening) → Handles family family.handles
    → Handles g (beside family number command ran).handles
lent_handles family number (command.Lend words) ran g rises all =
    all-put (λ handle. IsHandle g handle.1) family.handles words.handle _ (handles_stay family g rises family.handles all) (rises number)
lent_handles family number (command.Pin pin) ran g rises all = handles_stay family g rises family.handles all
lent_handles family number command ran g rises all = handles_stay family g rises family.handles all

table_handles : (family : FamilyState) (table : List ℕ) (read : BlockRead) → (with_table family table read).handles ≡ family.handles
table_handles family table (Makes layer) = refl
table_handles family table (Bad at) = refl

accepted_handles : (family : FamilyState) (line : Line) (ran : Ran) (g : FamilyState)
    → ((n : ℕ) → (family.stores n).opening ≤ (g.stores n).opening) → Handles family family.handles
    → Handles g (accepted family line ran).handles
accepted_handles family (line.Whole number command) ran g rises all = lent_handles family number command ran g rises all
accepted_handles family (line.Table table lines) ran g rises all =
    subst (Handles g) (sym (table_handles family table (block_of lines))) (handles_stay family g rises family.handles all)
accepted_handles family (line.DropHandle handle) ran g rises all =
    all-filter (λ handle. IsHandle g handle.1) _ family.handles (handles_stay family g rises family.handles all)
accepted_handles family line ran g rises all = handles_stay family g rises family.handles all

fallen_handles : (family : FamilyState) (line : Line) (ran : Ran) (found : Option ℕ)
    → (fallen_at family line ran found).handles ≡ family.handles
fallen_handles family line ran None = refl
fallen_handles family line ran (Some number) = refl

withstood_handles : (family : FamilyState) (line : Line) → (withstood family line).handles ≡ family.handles
withstood_handles family (line.Open number) = refl
withstood_handles family (line.Turn number lane) = refl
withstood_handles family line = refl

either_handles : (b : Bool) (x y : FamilyState) (handles : Named HandleState) → x.handles ≡ handles → y.handles ≡ handles
    → (if b then x else y).handles ≡ handles
either_handles true x y handles first second = first
either_handles false x y handles first second = second

refused_handles : (family : FamilyState) (line : Line) (ran : Ran) (refusal : Refusal)
    → (after_judged (Some refusal) family line ran).handles ≡ family.handles
refused_handles family line ran refusal =
    either_handles (has_fallen_at family ran (store_named family line)) (fallen_at family line ran (store_named family line))
    (withstood family line) family.handles (fallen_handles family line ran (store_named family line)) (withstood_handles family line)

judged_handles : (judged : Option Refusal) (family : FamilyState) (line : Line) (ran : Ran) (g : FamilyState)
    → ((n : ℕ) → (family.stores n).opening ≤ (g.stores n).opening) → Handles family family.handles
    → Handles g (after_judged judged family line ran).handles
judged_handles None family line ran g rises all = accepted_handles family line ran g rises all
judged_handles (Some refusal) family line ran g rises all =
    subst (Handles g) (sym (refused_handles family line ran refusal)) (handles_stay family g rises family.handles all)

pub handles_in_form : (family : FamilyState) (line : Line) (ran : Ran) → Handles family family.handles
    → Handles (line_after family line ran) (line_after family line ran).handles
handles_in_form family line ran all =
    judged_handles (refusal_to family line ran) family line ran (line_after family line ran) (openings_upto family line ran) all
