-- An entry that has Ended goes: a steady world stays steady.
use Rattle.std.proofs.Common.{◌≡◌, ℕ, ◌≤◌, inl, inr, Some, None, refl, sym, ap, ◌∙◌, subst}
use Rattle.std.proofs.lemmas.Bool.{both_ways}
use Rattle.pb_names.specs.Identity.{Identity}
use Rattle.pb_marker_world.specs.declared.stages.Stage.TheVariants.{Held, Ended}
use Rattle.pb_marker_world.specs.Machine.{Marker, Entry, World, local_of, with_local, entry_at}
use Rattle.pb_marker_world.specs.Steps.{with_part, with_entry}
use Rattle.pb_marker_world.specs.Sound.{may_show_marker, answers_for_object, IsDoomed, IsLent, IsSteady, LentMarkersAreSafe, OpenHandlesLendHeld, MarkersAreAccounted, ObjectsAreAnswered, EntriesUseNumbers, BeginningsAreFresh}
use Rattle.pb_marker_world.proofs.Worlds.{place_cases, entry_set, entry_kept, opening_kept, used_kept}
use Rattle.pb_marker_world.proofs.Tests.{same_entry}
use Rattle.pb_marker_world.proofs.Moves.{S7_objects_from, S7_markers_from}

module _ (w : World) (s n : ℕ) (e : Entry) (b : IsSteady w) (here : entry_at w s n ≡ Some e) (ended : e.stage ≡ Ended) where
  abbrev v : World
  v = with_local w s (with_part (local_of w s) (with_entry (w.parts s) n None))

  back : (t k : ℕ) (x : Entry) → entry_at v t k ≡ Some x → entry_at w t k ≡ Some x
  back t k x p =
      let l = with_part (local_of w s) (with_entry (w.parts s) n None) in
      elim (place_cases t k s n) [
        | inl a ↦ let clash : None ≡ Some x = sym (entry_set w s n l None (λ k. refl) t k a.0 a.1) ∙ p in absurd (cc)
        | inr a ↦ sym (entry_kept w s n l None (λ k. refl) t k a) ∙ p
      ]

  -- an entry stays unless it has Ended
  forth : (t k : ℕ) (x : Entry) → entry_at w t k ≡ Some x → (x.stage ≡ Ended → ⊥) → entry_at v t k ≡ Some x
  forth t k x p live =
      let l = with_part (local_of w s) (with_entry (w.parts s) n None) in
      elim (place_cases t k s n) [
        | inl a ↦ absurd (live (ap (λ (y : Entry). y.stage) (same_entry w t k s n x e p a.0 a.1 here) ∙ ended))
        | inr a ↦ entry_kept w s n l None (λ k. refl) t k a ∙ p
      ]

  opening : (t : ℕ) → (v.parts t).opening ≡ (w.parts t).opening
  opening t = opening_kept w s (with_part (local_of w s) (with_entry (w.parts s) n None)) refl t

  used : (t k : ℕ) → (v.parts t).used k ≡ (w.parts t).used k
  used t k = used_kept w s (with_part (local_of w s) (with_entry (w.parts s) n None)) refl t k

  doomed_back : (o : Identity) → IsDoomed v o → IsDoomed w o
  doomed_back o d =
      record {
        store = d.store;
        number = d.number;
        entry = d.entry;
        stands = back d.store d.number d.entry d.stands;
        same = d.same;
        counted = d.counted;
      }

  lent_back : (m : Marker) → IsLent v m → IsLent w m
  lent_back m l =
      elim l [
        | inl d ↦ inl d
        | inr d ↦ inr (record {
          store = d.store;
          number = d.number;
          entry = d.entry;
          stands = back d.store d.number d.entry d.stands;
          lent = d.lent;
        })
      ]

  left_S3 : LentMarkersAreSafe v
  left_S3 m l =
      let g = b.sound.S3 m (lent_back m l) in
      record {
        number = used m.store m.number ∙ g.number;
        object_number = used m.object.creator m.object.number ∙ g.object_number;
        arrived = λ x p q. g.arrived x (back m.store m.number x p) q;
        stands = g.stands;
        safe = λ p d. g.safe p (doomed_back m.object d);
      }

  left_S4 : OpenHandlesLendHeld v
  left_S4 h g k m p a q r =
      let u = b.sound.S4 h g k m p a (q ∙ opening g.store) r in
      record {
        entry = u.entry;
        stands = forth g.store m.number u.entry u.stands (λ y. let clash : Held ≡ Ended = sym u.held ∙ y in absurd (cc));
        held = u.held;
        own = u.own;
      }

  left_S5 : MarkersAreAccounted v
  left_S5 m p =
      let u = b.sound.S5 m p in
      record {
        entry = u.entry;
        stands = forth m.store m.number u.entry u.stands (λ y. both_ways (may_show_marker u.entry.stage) (ap may_show_marker y) u.shows);
        same = u.same;
        shows = u.shows;
      }

  left_S6 : ObjectsAreAnswered v
  left_S6 o p =
      let u = b.sound.S6 o p in
      record {
        store = u.store;
        number = u.number;
        entry = u.entry;
        stands = forth u.store u.number u.entry u.stands
            (λ y. both_ways (answers_for_object u.entry.stage) (ap answers_for_object y) u.answers);
        same = u.same;
        answers = u.answers;
      }

  left_S7 : EntriesUseNumbers v
  left_S7 t k x p =
      let u = b.sound.S7_entries t k x (back t k x p) in
      record { own = used t k ∙ u.own; object = used x.object.creator x.object.number ∙ u.object }

  left_S8 : BeginningsAreFresh v
  left_S8 t k x p o r =
      let fresh = b.sound.S8 t k x (back t k x p) o r in
      record {
        unmarked = fresh.unmarked;
        alone = λ t2 k2 x2 p2 o2. fresh.alone t2 k2 x2 (back t2 k2 x2 p2) o2;
        unlent = fresh.unlent;
        present = fresh.present;
      }

  pub drop_steady : IsSteady v
  drop_steady =
      record {
        sound = record {
          S1 = λ t k x p. b.sound.S1 t k x (back t k x p);
          S2 = λ t k x p q.
              let u = b.sound.S2 t k x (back t k x p) q in
              record { present = u.present; spared = λ d. u.spared (doomed_back x.object d) };
          S3 = left_S3;
          S4 = left_S4;
          S5 = left_S5;
          S6 = left_S6;
          S7_entries = left_S7;
          S7_objects = S7_objects_from v left_S6 left_S7;
          S7_markers = S7_markers_from v left_S5 left_S7;
          S8 = left_S8;
        };
        makes_own = λ t k x p. b.makes_own t k x (back t k x p);
        put_own = λ t k x p. b.put_own t k x (back t k x p);
        same_object = λ t k x m p. b.same_object t k x m (back t k x p);
        past = λ h g p. subst (λ x. g.opening ≤ x) (sym (opening g.store)) (b.past h g p);
      }
