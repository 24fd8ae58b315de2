-- The step that an event asks for, and what such a step needs.
use Rattle.std.proofs.Common.{◌≡◌, ℕ, false, ◌⊎◌, inl, inr, Option, Some, None, List, [], ◌++◌, map, refl, sym, ap, ◌∙◌, subst}
use Rattle.std.specs.Prelude.{slice_get}
use Rattle.std.specs.List.{list_any}
use Rattle.std.specs.Option.{option_map, option_and_then}
use Rattle.std.proofs.lemmas.Option.{some_pair_parts, same_Some}
use Rattle.pb_marker_world.specs.declared.stages.Stage.TheVariants.{Intended, Marked, Held, Loose, Bare, Counted, Ended}
use Rattle.pb_marker_world.specs.declared.records.Place.{Place}
use Rattle.pb_marker_world.specs.declared.scans.Found.{Found}
use Rattle.pb_marker_world.specs.Machine.{Entry, Local, local_of, own_marker}
use Rattle.pb_marker_world.specs.Steps.{Step, Happens, protects}
use Rattle.pb_marker_world.specs.Steps.Step.{PutsObject, PutsMarker, Checks, DeletesMarker, Counts, DeletesObject, Drops}
use Rattle.pb_marker_world.specs.Book.{Book, entry_in, opening_in, world_of, written}
use Rattle.pb_marker_world.specs.Events.{step_at, placed_in, places_of, IsPossible}
use Rattle.pb_marker_world.specs.Found.{IsFoundAt, marked_from, stage_marked}
use Rattle.pb_marker_world.proofs.Lists.{places_of-written, append-none}

-- the step that is asked for is the one that happens
pub at_asked : (b : Book) (s : ℕ) (k : Step) (store : ℕ) (step : Step) (after : Local)
    → ◌≡◌ {A = Option (ℕ × Step)} (Some (s, k)) (Some (store, step)) → Happens store (local_of (world_of b) store) step after
    → Happens s (local_of (world_of b) s) k after
at_asked b s k store step after q h =
    let u = some_pair_parts s store k step q in
    subst (λ x. Happens x (local_of (world_of b) x) k after) (sym u.0)
    (subst (λ x. Happens store (local_of (world_of b) store) x after) (sym u.1) h)

-- the place that a step names
record NamesPlace (b : Book) (at : ℕ) (k : ℕ → Step) (store : ℕ) (step : Step) : Type 0 where
  place : Place
  there : slice_get b.places at ≡ Some place
  asked : ◌≡◌ {A = Option (ℕ × Step)} (Some (place.store, k place.number)) (Some (store, step))

step_names : (b : Book) (at : ℕ) (k : ℕ → Step) (store : ℕ) (step : Step) → step_at b at k ≡ Some (store, step)
    → NamesPlace b at k store step
step_names b at k store step q = go (slice_get b.places at) refl q
  where
    go : (o : Option Place) → slice_get b.places at ≡ o → option_map {U = ℕ × Step} (λ (p : Place). (p.store, k p.number)) o ≡ Some (store, step)
        → NamesPlace b at k store step
    go None e h = absurd (cc)
    go (Some p) e h = record { place = p; there = e; asked = h }

-- such a step may happen at the place
abbrev pub MayMove : Book → ℕ → (ℕ → Step) → Type 0
MayMove b at k = IsPossible b (step_at b at k) (Unit {0})

-- an entry of this kind stands under the number
pub record HasEntry (b : Book) (s n : ℕ) (C : ℕ → ℕ → Entry → Type 0) : Type 0 where
  pub entry : Entry
  pub stands : entry_in b.places s n ≡ Some entry
  pub is : C s n entry

-- such a step needs an entry of this kind
abbrev pub Needs : Book → (ℕ → Step) → (ℕ → ℕ → Entry → Type 0) → Type 0
Needs b k C = (s n : ℕ) (after : Local) → Happens s (local_of (world_of b) s) (k n) after → HasEntry b s n C

pub refused_none : (b : Book) (at : ℕ) (k : ℕ → Step) (C : ℕ → ℕ → Entry → Type 0) → Needs b k C
    → placed_in b.places at ≡ None → MayMove b at k → ⊥
refused_none b at k C needs none m =
    let u = step_names b at k m.store m.step m.asked in
    let e = needs u.place.store u.place.number m.after
    (at_asked b u.place.store (k u.place.number) m.store m.step m.after u.asked m.happens) in
    let clash : None ≡ Some e.entry =
    sym none ∙ (ap (λ o. option_and_then (λ (p : Place). entry_in b.places p.store p.number) o) u.there ∙ e.stands) in
    absurd (cc)

pub refused : (b : Book) (at : ℕ) (k : ℕ → Step) (C : ℕ → ℕ → Entry → Type 0) (f : Found) → Needs b k C
    → IsFoundAt b.places at f → (C f.store f.number f.entry → ⊥) → MayMove b at k → ⊥
refused b at k C f needs found lacks m =
    let u = step_names b at k m.store m.step m.asked in
    let p = u.place in
    let e = needs p.store p.number m.after (at_asked b p.store (k p.number) m.store m.step m.after u.asked m.happens) in
    let same : p ≡ found.place = same_Some p found.place (sym u.there ∙ found.there) in
    let store : p.store ≡ f.store = ap (λ (x : Place). x.store) same ∙ found.store in
    let number : p.number ≡ f.number = ap (λ (x : Place). x.number) same ∙ found.number in
    let entry : e.entry ≡ f.entry =
    same_Some e.entry f.entry
    (sym e.stands ∙ (ap (λ x. entry_in b.places x p.number) store ∙ (ap (λ x. entry_in b.places f.store x) number ∙ found.stands))) in
    lacks (subst (λ x. C x f.number f.entry) store (subst (λ x. C p.store x f.entry) number (subst (C p.store p.number) entry e.is)))

pub needs_put_object : (b : Book) → Needs b PutsObject (λ s n e. (e.stage ≡ Intended) × (e.lender ≡ None))
needs_put_object b s n after h = record { entry = h.entry; stands = h.at.stands; is = (h.at.come, h.no_lender) }

pub needs_put_marker : (b : Book) → Needs b PutsMarker (λ s n e. stage_marked e ≡ None → ⊥)
needs_put_marker b s n after h =
    elim h.how [
      | inl q ↦ record {
        entry = h.entry;
        stands = q.at.stands;
        is = λ y. let clash : None ≡ Some Held = sym y ∙ ap (λ x. marked_from x h.entry.lender) q.at.come in absurd (cc);
      }
      | inr q ↦ record {
        entry = h.entry;
        stands = q.at.stands;
        is = λ y. let clash : None ≡ Some Marked = sym y ∙ (λ i. marked_from (q.at.come i) (q.lent i)) in absurd (cc);
      }
    ]

pub needs_check : (b : Book) → Needs b Checks (λ s n e. e.stage ≡ Marked)
needs_check b s n after h = record { entry = h.entry; stands = h.at.stands; is = h.at.come }

pub needs_delete_marker : (b : Book)
    → Needs b DeletesMarker (λ s n e. ((e.stage ≡ Held) ⊎ (e.stage ≡ Loose))
    × (list_any (protects s (opening_in b.openings s) (own_marker s n e)) b.given ≡ false))
needs_delete_marker b s n after h =
    elim h.at [
      | inl q ↦ record { entry = h.entry; stands = q.stands; is = (inl q.come, h.unprotected) }
      | inr q ↦ record { entry = h.entry; stands = q.stands; is = (inr q.come, h.unprotected) }
    ]

pub needs_count : (b : Book) → Needs b Counts (λ s n e. e.stage ≡ Bare)
needs_count b s n after h = record { entry = h.entry; stands = h.at.stands; is = h.at.come }

pub needs_delete_object : (b : Book) → Needs b DeletesObject (λ s n e. e.stage ≡ Counted)
needs_delete_object b s n after h = record { entry = h.entry; stands = h.at.stands; is = h.at.come }

pub needs_drop : (b : Book) → Needs b Drops (λ s n e. e.stage ≡ Ended)
needs_drop b s n after h = record { entry = h.entry; stands = h.at.stands; is = h.at.come }

pub asked_at : (b : Book) (at : ℕ) (k : ℕ → Step) (f : Found) → IsFoundAt b.places at f → step_at b at k ≡ Some (f.store, k f.number)
asked_at b at k f u =
    ap (λ o. option_map {U = ℕ × Step} (λ (p : Place). (p.store, k p.number)) o) u.there ∙ (λ i. Some (u.store i, k (u.number i)))

pub placed_at : (ps : List Place) (at : ℕ) (f : Found) → IsFoundAt ps at f → placed_in ps at ≡ Some f.entry
placed_at ps at f u =
    ap (λ o. option_and_then (λ (p : Place). entry_in ps p.store p.number) o) u.there
    ∙ ((λ i. entry_in ps (u.store i) (u.number i)) ∙ u.stands)

-- the places stay those of the same entries
pub kept_places : (b : Book) (s n : ℕ) (o : Option Entry)
    → places_of (map (written s n o) b.places) ≡ places_of b.places ++ []
kept_places b s n o = places_of-written s n o b.places ∙ append-none (places_of b.places)
