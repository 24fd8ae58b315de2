-- Which stores a line changes.
use Rattle.std.proofs.Common.{◌≡◌, ℕ, ◌==◌, Bool, true, false, List, Option, Some, None, if◌then◌else◌, refl, sym, ap, ◌∙◌, subst, inl, inr}
use Rattle.std.proofs.lemmas.Bool.{cases_Bool, cond-true, cond-false, eqb-true, eq-eqb}
use Rattle.std.proofs.lemmas.Option.{same_Some}
use Rattle.pb_reply.specs.declared.refusal.Refusal.{Refusal}
use Rattle.pb_script.specs.declared.command.Command.{Command}
use Rattle.pb_script.specs.declared.command.Command.TheVariants as command
use Rattle.pb_script.specs.declared.line.Line.{Line}
use Rattle.pb_script.specs.declared.line.Line.TheVariants as line
use Rattle.pb_machine.specs.Family.{FamilyState, StoreState, with_store}
use Rattle.pb_machine.specs.Blocks.{BlockRead, Makes, Bad, block_of}
use Rattle.pb_machine.specs.After.{accepted, after_judged, beside, fallen_at, has_fallen_at, line_after, store_named, with_table, withstood}
use Rattle.pb_machine.specs.Replies.{refusal_to}
use Rattle.pb_machine.specs.Ran.{Ran}

-- the store that was put, and the others
pub put_there : (family : FamilyState) (number : ℕ) (new : StoreState) → (with_store family number new).stores number ≡ new
put_there family number new = cond-true (number == number) new (family.stores number) (eq-eqb number number refl)

pub other_kept : (family : FamilyState) (number store other : ℕ) (new : StoreState) → ◌≡◌ {A = Option ℕ} (Some number) (Some store)
    → (other == store) ≡ false → (with_store family number new).stores other ≡ family.stores other
other_kept family number store other new is apart =
    cond-false (other == number) new (family.stores other) (ap (λ (n : ℕ). other == n) (same_Some number store is) ∙ apart)

-- what holds of each store and of the one that is put, by what it was
pub kept_by : (Kept : StoreState → StoreState → Type 0) (family : FamilyState) (number store : ℕ) (new : StoreState)
    → Kept (family.stores number) new → ((s : StoreState) → Kept s s)
    → Kept (family.stores store) ((with_store family number new).stores store)
kept_by Kept family number store new changed same =
    elim (cases_Bool (store == number)) [
      | inl is ↦
          subst (λ (s : StoreState). Kept (family.stores store) s) (sym (cond-true (store == number) new (family.stores store) is))
          (subst (λ (n : ℕ). Kept (family.stores n) new) (sym (eqb-true store number is)) changed)
      | inr other ↦
          subst (λ (s : StoreState). Kept (family.stores store) s) (sym (cond-false (store == number) new (family.stores store) other))
          (same (family.stores store))
    ]

-- ---- others stay

pub beside_stores : (family : FamilyState) (number : ℕ) (command : Command) (ran : Ran) (other : ℕ)
    → (beside family number command ran).stores other ≡ family.stores other
beside_stores family number (command.Lend words) ran other = refl
beside_stores family number (command.Pin pin) ran other = refl
beside_stores family number command ran other = refl

pub table_stores : (family : FamilyState) (table : List ℕ) (read : BlockRead) (other : ℕ)
    → (with_table family table read).stores other ≡ family.stores other
table_stores family table (Makes layer) other = refl
table_stores family table (Bad at) other = refl

accepted_others : (family : FamilyState) (line : Line) (ran : Ran) (store other : ℕ) → store_named family line ≡ Some store
    → (other == store) ≡ false → (accepted family line ran).stores other ≡ family.stores other
accepted_others family (line.Open number) ran store other is apart = other_kept family number store other _ is apart
accepted_others family (line.Close number) ran store other is apart = other_kept family number store other _ is apart
accepted_others family (line.Stop number) ran store other is apart = other_kept family number store other _ is apart
accepted_others family (line.Turn number lane) ran store other is apart = other_kept family number store other _ is apart
accepted_others family (line.Whole number command) ran store other is apart =
    other_kept (beside family number command ran) number store other _ is apart ∙ beside_stores family number command ran other
accepted_others family (line.Start number command) ran store other is apart = other_kept family number store other _ is apart
accepted_others family (line.Table table lines) ran store other is apart = table_stores family table (block_of lines) other
accepted_others family line ran store other is apart = refl

fallen_others : (family : FamilyState) (line : Line) (ran : Ran) (found : Option ℕ) (store other : ℕ) → found ≡ Some store
    → (other == store) ≡ false → (fallen_at family line ran found).stores other ≡ family.stores other
fallen_others family line ran None store other is apart = cc
fallen_others family line ran (Some number) store other is apart = other_kept family number store other _ is apart

withstood_others : (family : FamilyState) (line : Line) (store other : ℕ) → store_named family line ≡ Some store
    → (other == store) ≡ false → (withstood family line).stores other ≡ family.stores other
withstood_others family (line.Open number) store other is apart = other_kept family number store other _ is apart
withstood_others family (line.Turn number lane) store other is apart = other_kept family number store other _ is apart
withstood_others family line store other is apart = refl

one_of : (b : Bool) (x y : FamilyState) (other : ℕ) (kept : StoreState) → x.stores other ≡ kept → y.stores other ≡ kept
    → (if b then x else y).stores other ≡ kept
one_of true x y other kept first second = first
one_of false x y other kept first second = second

judged_others : (judged : Option Refusal) (family : FamilyState) (line : Line) (ran : Ran) (store other : ℕ)
    → store_named family line ≡ Some store
    → (other == store) ≡ false → (after_judged judged family line ran).stores other ≡ family.stores other
judged_others None family line ran store other is apart = accepted_others family line ran store other is apart
judged_others (Some refusal) family line ran store other is apart =
    one_of (has_fallen_at family ran (store_named family line)) _ _ other (family.stores other)
    (fallen_others family line ran (store_named family line) store other is apart) (withstood_others family line store other is apart)

pub others_kept : (family : FamilyState) (line : Line) (ran : Ran) (store other : ℕ) → store_named family line ≡ Some store
    → (other == store) ≡ false → (line_after family line ran).stores other ≡ family.stores other
others_kept family line ran = judged_others (refusal_to family line ran) family line ran

-- ---- lines without a store

no_number : (number : ℕ) → ◌≡◌ {A = Option ℕ} (Some number) None → ⊥
no_number number is = cc

accepted_all : (family : FamilyState) (line : Line) (ran : Ran) (other : ℕ) → store_named family line ≡ None
    → (accepted family line ran).stores other ≡ family.stores other
accepted_all family (line.Open number) ran other is = absurd (no_number number is)
accepted_all family (line.Close number) ran other is = absurd (no_number number is)
accepted_all family (line.Stop number) ran other is = absurd (no_number number is)
accepted_all family (line.Turn number lane) ran other is = absurd (no_number number is)
accepted_all family (line.Whole number command) ran other is = absurd (no_number number is)
accepted_all family (line.Start number command) ran other is = absurd (no_number number is)
accepted_all family (line.Table table lines) ran other is = table_stores family table (block_of lines) other
accepted_all family line ran other is = refl

withstood_all : (family : FamilyState) (line : Line) (other : ℕ) → store_named family line ≡ None
    → (withstood family line).stores other ≡ family.stores other
withstood_all family (line.Open number) other is = absurd (no_number number is)
withstood_all family (line.Turn number lane) other is = absurd (no_number number is)
withstood_all family line other is = refl

fallen_none : (family : FamilyState) (line : Line) (ran : Ran) (found : Option ℕ) (other : ℕ) → found ≡ None
    → (fallen_at family line ran found).stores other ≡ family.stores other
fallen_none family line ran None other is = refl
fallen_none family line ran (Some number) other is = absurd (no_number number is)

judged_all : (judged : Option Refusal) (family : FamilyState) (line : Line) (ran : Ran) (other : ℕ) → store_named family line ≡ None
    → (after_judged judged family line ran).stores other ≡ family.stores other
judged_all None family line ran other is = accepted_all family line ran other is
judged_all (Some refusal) family line ran other is =
    one_of (has_fallen_at family ran (store_named family line)) _ _ other (family.stores other)
    (fallen_none family line ran (store_named family line) other is) (withstood_all family line other is)

pub all_kept : (family : FamilyState) (line : Line) (ran : Ran) (other : ℕ) → store_named family line ≡ None
    → (line_after family line ran).stores other ≡ family.stores other
all_kept family line ran = judged_all (refusal_to family line ran) family line ran
