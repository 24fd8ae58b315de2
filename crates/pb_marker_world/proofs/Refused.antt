-- The events of one entry on the lists: that each may not happen.
use Rattle.std.proofs.Common.{◌≡◌, ℕ, ◌<◌, Bool, true, false, ◌⊎◌, inl, inr, Option, Some, None, List, refl, sym, ap, ◌∙◌, arith}
use Rattle.std.specs.Prelude.{◌^◌, ◌-◌, is_some}
use Rattle.std.specs.List.{list_any}
use Rattle.std.proofs.lemmas.Bool.{both_ways}
use Rattle.pb_marker_world.specs.declared.stages.Stage.{Stage}
use Rattle.pb_marker_world.specs.declared.stages.Stage.TheVariants.{Intended, Put, Marked, Held, Loose, Bare, Counted, Ended}
use Rattle.pb_marker_world.specs.declared.events.Event.TheVariants.{PutObject, PutMarker, Check, DeleteMarker, Count, DeleteObject, Drop, Crash}
use Rattle.pb_marker_world.specs.declared.scans.Found.{Found}
use Rattle.pb_marker_world.specs.Machine.{Marker, own_marker}
use Rattle.pb_marker_world.specs.Steps.{protects}
use Rattle.pb_marker_world.specs.Steps.Step.{PutsObject, PutsMarker, Checks, DeletesMarker, Counts, DeletesObject, Drops}
use Rattle.pb_marker_world.specs.Sound.{is_settled_stage}
use Rattle.pb_marker_world.specs.Book.{Book, opening_in}
use Rattle.pb_marker_world.specs.Events.{placed_in, MayHappen}
use Rattle.pb_marker_world.specs.Found.{IsFoundAt, stage_marked}
use Rattle.pb_marker_world.proofs.Asked.{refused_none, refused, needs_put_object, needs_put_marker, needs_check, needs_delete_marker, needs_count, needs_delete_object, needs_drop}

no_lender : (o : Option Marker) → is_some o ≡ false → o ≡ None
no_lender None p = refl
no_lender (Some m) p = absurd (cc)

pub no_lender_of : (f : Found) (t : Bool) → t ≡ is_some f.entry.lender → t ≡ false → f.entry.lender ≡ None
no_lender_of f t p q = no_lender f.entry.lender (sym p ∙ q)

pub settled_stage : (st : Stage) → is_settled_stage st ≡ true → (st ≡ Held) ⊎ (st ≡ Loose)
settled_stage Held p = inl refl
settled_stage Loose p = inr refl
settled_stage Intended p = absurd (cc)
settled_stage Put p = absurd (cc)
settled_stage Marked p = absurd (cc)
settled_stage Bare p = absurd (cc)
settled_stage Counted p = absurd (cc)
settled_stage Ended p = absurd (cc)

pub not_settled : (st : Stage) → is_settled_stage st ≡ false → ((st ≡ Held) ⊎ (st ≡ Loose)) → ⊥
not_settled st p q =
    elim q [
      | inl y ↦ both_ways (is_settled_stage st) p (ap is_settled_stage y)
      | inr y ↦ both_ways (is_settled_stage st) p (ap is_settled_stage y)
    ]

module _ (b : Book) (at : ℕ) where
  pub put_object_none : placed_in b.places at ≡ None → MayHappen b (PutObject at) → ⊥
  put_object_none = refused_none b at PutsObject (λ s n e. (e.stage ≡ Intended) × (e.lender ≡ None)) (needs_put_object b)

  pub put_marker_none : placed_in b.places at ≡ None → MayHappen b (PutMarker at) → ⊥
  put_marker_none = refused_none b at PutsMarker (λ s n e. stage_marked e ≡ None → ⊥) (needs_put_marker b)

  pub check_none : placed_in b.places at ≡ None → MayHappen b (Check at) → ⊥
  check_none = refused_none b at Checks (λ s n e. e.stage ≡ Marked) (needs_check b)

  pub delete_marker_none : placed_in b.places at ≡ None → MayHappen b (DeleteMarker at) → ⊥
  delete_marker_none =
      refused_none b at DeletesMarker
      (λ s n e. ((e.stage ≡ Held) ⊎ (e.stage ≡ Loose))
      × (list_any (protects s (opening_in b.openings s) (own_marker s n e)) b.given ≡ false))
      (needs_delete_marker b)

  pub count_none : placed_in b.places at ≡ None → MayHappen b (Count at) → ⊥
  count_none = refused_none b at Counts (λ s n e. e.stage ≡ Bare) (needs_count b)

  pub delete_object_none : placed_in b.places at ≡ None → MayHappen b (DeleteObject at) → ⊥
  delete_object_none = refused_none b at DeletesObject (λ s n e. e.stage ≡ Counted) (needs_delete_object b)

  pub drop_none : placed_in b.places at ≡ None → MayHappen b (Drop at) → ⊥
  drop_none = refused_none b at Drops (λ s n e. e.stage ≡ Ended) (needs_drop b)

module _ (b : Book) (at : ℕ) (f : Found) (found : IsFoundAt b.places at f) where
  pub put_object_stage : (f.entry.stage ≡ Intended → ⊥) → MayHappen b (PutObject at) → ⊥
  put_object_stage lacks =
      refused b at PutsObject (λ s n e. (e.stage ≡ Intended) × (e.lender ≡ None)) f (needs_put_object b) found (λ y. lacks y.0)

  pub put_object_lender : (f.entry.lender ≡ None → ⊥) → MayHappen b (PutObject at) → ⊥
  put_object_lender lacks =
      refused b at PutsObject (λ s n e. (e.stage ≡ Intended) × (e.lender ≡ None)) f (needs_put_object b) found (λ y. lacks y.1)

  pub put_marker_stage : stage_marked f.entry ≡ None → MayHappen b (PutMarker at) → ⊥
  put_marker_stage lacks =
      refused b at PutsMarker (λ s n e. stage_marked e ≡ None → ⊥) f (needs_put_marker b) found (λ y. y lacks)

  pub check_stage : (f.entry.stage ≡ Marked → ⊥) → MayHappen b (Check at) → ⊥
  check_stage = refused b at Checks (λ s n e. e.stage ≡ Marked) f (needs_check b) found

  pub delete_marker_stage : is_settled_stage f.entry.stage ≡ false → MayHappen b (DeleteMarker at) → ⊥
  delete_marker_stage lacks =
      refused b at DeletesMarker
      (λ s n e. ((e.stage ≡ Held) ⊎ (e.stage ≡ Loose))
      × (list_any (protects s (opening_in b.openings s) (own_marker s n e)) b.given ≡ false))
      f (needs_delete_marker b) found (λ y. not_settled f.entry.stage lacks y.0)

  pub delete_marker_lent :
      list_any (protects f.store (opening_in b.openings f.store) (own_marker f.store f.number f.entry)) b.given ≡ true
      → MayHappen b (DeleteMarker at) → ⊥
  delete_marker_lent lent =
      refused b at DeletesMarker
      (λ s n e. ((e.stage ≡ Held) ⊎ (e.stage ≡ Loose))
      × (list_any (protects s (opening_in b.openings s) (own_marker s n e)) b.given ≡ false))
      f (needs_delete_marker b) found
      (λ y. both_ways
      (list_any (protects f.store (opening_in b.openings f.store) (own_marker f.store f.number f.entry)) b.given) y.1 lent)

  pub count_stage : (f.entry.stage ≡ Bare → ⊥) → MayHappen b (Count at) → ⊥
  count_stage = refused b at Counts (λ s n e. e.stage ≡ Bare) f (needs_count b) found

  pub delete_object_stage : (f.entry.stage ≡ Counted → ⊥) → MayHappen b (DeleteObject at) → ⊥
  delete_object_stage = refused b at DeletesObject (λ s n e. e.stage ≡ Counted) f (needs_delete_object b) found

  pub drop_stage : (f.entry.stage ≡ Ended → ⊥) → MayHappen b (Drop at) → ⊥
  drop_stage = refused b at Drops (λ s n e. e.stage ≡ Ended) f (needs_drop b) found

pub crash_spent : (b : Book) (s : ℕ) (at : List ℕ) (n : ℕ) → n ≡ opening_in b.openings s → n ≡ 2 ^ 64 - 1
    → MayHappen b (Crash s at) → ⊥
crash_spent b s at n p q m =
    let room : opening_in b.openings s < 2 ^ 64 - 1 = m.room in
    let now : opening_in b.openings s ≡ 2 ^ 64 - 1 = sym p ∙ q in
    omega arith
