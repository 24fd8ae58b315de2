-- What handles and held entries give in a steady world, and worlds between two runs.
use Rattle.std.proofs.Common.{◌≡◌, ℕ, true, false, inl, inr, Some, None, List, [], sym, ap, ◌∙◌}
use Rattle.std.specs.Prelude.{slice_get}
use Rattle.std.proofs.lemmas.Bool.{both_ways}
use Rattle.pb_names.specs.Identity.{Identity}
use Rattle.pb_marker_world.specs.declared.stages.Stage.TheVariants.{Held}
use Rattle.pb_marker_world.specs.Machine.{Marker, Entry, Part, Lending, Local, World, local_of, entry_at}
use Rattle.pb_marker_world.specs.Steps.{Step, Reaches}
use Rattle.pb_marker_world.specs.Sound.{shows_marker, is_settled_stage, IsDoomed, IsLent, IsSound, IsSteady, AllSettled, with_openings}
use Rattle.pb_marker_world.proofs.Worlds.{part_there}
use Rattle.pb_marker_world.proofs.Steady.{reaches_steady}

pub lender_protects : (w : World) → IsSteady w → (h : ℕ) (g : Lending) (k : ℕ) (m : Marker) → slice_get w.lendings h ≡ Some g
    → g.is_open ≡ true → g.opening ≡ (w.parts g.store).opening → slice_get g.markers k ≡ Some m → w.names.markers m ≡ true
lender_protects w b h g k m given open_now now there =
    let u = b.sound.S4 h g k m given open_now now there in
    ap w.names.markers u.own ∙ b.sound.S1 g.store m.number u.entry u.stands (ap shows_marker u.held)

pub held_stays : (w : World) (store : ℕ) (steps : List Step) (after : Local) → IsSteady w → Reaches store (local_of w store) steps after
    → (t n : ℕ) (e : Entry) → (t ≡ store → ⊥) → entry_at w t n ≡ Some e → e.stage ≡ Held → after.names.objects e.object ≡ true
held_stays w store steps after b reached t n e apart stands held =
    let v = reaches_steady steps w store after b reached in
    (v.sound.S2 t n e (ap (λ (p : Part). p.entries n) (part_there w store after t apart) ∙ stands) held).present

no_handle : {A : Type 0} (xs : List A) (h : ℕ) (x : A) → xs ≡ [] → slice_get xs h ≡ Some x → ⊥
no_handle xs h x none p = let clash : None ≡ Some x = ap (λ ys. slice_get ys h) (sym none) ∙ p in cc

pub closed_steady : (w : World) → IsSound w → AllSettled w → w.lendings ≡ [] → IsSteady w
closed_steady w sound each none =
    record {
      sound = sound;
      makes_own = λ s n e p st ln. absurd (both_ways (is_settled_stage e.stage) (ap is_settled_stage st) (each s n e p).stage);
      put_own = λ s n e p st. absurd (both_ways (is_settled_stage e.stage) (ap is_settled_stage st) (each s n e p).stage);
      same_object = λ s n e m p ln. let clash : None ≡ Some m = sym (each s n e p).no_lender ∙ ln in absurd (cc);
      past = λ h g p. absurd (no_handle w.lendings h g none p);
    }

-- ---- other opening numbers

module _ (w : World) (openings : ℕ → ℕ) (none : w.lendings ≡ []) where
  abbrev v : World
  v = with_openings w openings

  doomed_back : (o : Identity) → IsDoomed v o → IsDoomed w o
  doomed_back o d =
      record {
        store = d.store;
        number = d.number;
        entry = d.entry;
        stands = d.stands;
        same = d.same;
        counted = d.counted;
      }

  lent_back : (m : Marker) → IsLent v m → IsLent w m
  lent_back m l =
      elim l [
        | inl d ↦ inl d
        | inr d ↦ inr (record { store = d.store; number = d.number; entry = d.entry; stands = d.stands; lent = d.lent })
      ]

  pub reopened_sound : IsSound w → IsSound v
  reopened_sound b =
      record {
        S1 = b.S1;
        S2 = λ s n e p q.
            let u = b.S2 s n e p q in
            record { present = u.present; spared = λ d. u.spared (doomed_back e.object d) };
        S3 = λ m l.
            let g = b.S3 m (lent_back m l) in
            record {
              number = g.number;
              object_number = g.object_number;
              arrived = g.arrived;
              stands = g.stands;
              safe = λ p d. g.safe p (doomed_back m.object d);
            };
        S4 = λ h g k m p _ _ _. absurd (no_handle w.lendings h g none p);
        S5 = λ m p.
            let u = b.S5 m p in
            record { entry = u.entry; stands = u.stands; same = u.same; shows = u.shows };
        S6 = λ o p.
            let u = b.S6 o p in
            record {
              store = u.store;
              number = u.number;
              entry = u.entry;
              stands = u.stands;
              same = u.same;
              answers = u.answers;
            };
        S7_entries = λ s n e p. let u = b.S7_entries s n e p in record { own = u.own; object = u.object };
        S7_objects = b.S7_objects;
        S7_markers = b.S7_markers;
        S8 = λ s n e p q r.
            let fresh = b.S8 s n e p q r in
            record { unmarked = fresh.unmarked; alone = fresh.alone; unlent = fresh.unlent; present = fresh.present };
      }

  pub reopened_steady : IsSteady w → IsSteady v
  reopened_steady b =
      record {
        sound = reopened_sound b.sound;
        makes_own = b.makes_own;
        put_own = b.put_own;
        same_object = b.same_object;
        past = λ h g p. absurd (no_handle w.lendings h g none p);
      }

-- nothing is entered, present or lent, so there is nothing to be amiss
module _ (w : World) (no_entry : (s n : ℕ) → entry_at w s n ≡ None) (no_object : (o : Identity) → w.names.objects o ≡ false)
    (no_marker : (m : Marker) → w.names.markers m ≡ false) (none : w.lendings ≡ []) where
  stands_not : (s n : ℕ) (e : Entry) → entry_at w s n ≡ Some e → ⊥
  stands_not s n e p = let clash : None ≡ Some e = sym (no_entry s n) ∙ p in cc

  pub bare_sound : IsSound w
  bare_sound =
      record {
        S1 = λ s n e p. absurd (stands_not s n e p);
        S2 = λ s n e p. absurd (stands_not s n e p);
        S3 = λ m l. absurd (elim l [
          | inl d ↦ no_handle w.lendings d.handle d.given none d.there
          | inr d ↦ stands_not d.store d.number d.entry d.stands
        ]);
        S4 = λ h g k m p. absurd (no_handle w.lendings h g none p);
        S5 = λ m p. absurd (both_ways (w.names.markers m) (no_marker m) p);
        S6 = λ o p. absurd (both_ways (w.names.objects o) (no_object o) p);
        S7_entries = λ s n e p. absurd (stands_not s n e p);
        S7_objects = λ o p. absurd (both_ways (w.names.objects o) (no_object o) p);
        S7_markers = λ m p. absurd (both_ways (w.names.markers m) (no_marker m) p);
        S8 = λ s n e p. absurd (stands_not s n e p);
      }
