-- The events of one entry on the lists: that each has happened.
use Rattle.std.proofs.Common.{◌≡◌, ℕ, true, false, ◌⊎◌, inl, inr, Option, Some, None, [], ◌∷◌, ◌++◌, refl, sym, ap, ◌∙◌}
use Rattle.std.specs.Prelude.{not, if◌then◌else◌}
use Rattle.std.specs.List.{list_any, filter}
use Rattle.std.proofs.lemmas.Bool.{both_ways, cases_Bool, cond-true, cond-false}
use Rattle.std.proofs.lemmas.Option.{same_Some}
use Rattle.pb_marker_world.specs.declared.stages.Stage.{Stage}
use Rattle.pb_marker_world.specs.declared.stages.Stage.TheVariants.{Intended, Put, Marked, Held, Loose, Bare, Counted, Ended}
use Rattle.pb_marker_world.specs.declared.events.Event.TheVariants.{PutObject, PutMarker, Check, DeleteMarker, Count, DeleteObject, Drop}
use Rattle.pb_marker_world.specs.declared.events.Outcome.TheVariants.{Done, Present, Any}
use Rattle.pb_marker_world.specs.declared.scans.Found.{Found}
use Rattle.pb_marker_world.specs.Machine.{Marker, local_of, own_marker, same_identity, same_marker, with_object, without_object, with_marker, without_marker}
use Rattle.pb_marker_world.specs.Steps.{Happens, IsMarked, protects, lender_stands, at_stage, settled, with_part, with_entry, moved}
use Rattle.pb_marker_world.specs.Steps.Step.{PutsObject, PutsMarker, Checks, DeletesMarker, Counts, DeletesObject, Drops}
use Rattle.pb_marker_world.specs.Book.{Book, opening_in, part_of, world_of}
use Rattle.pb_marker_world.specs.Events.{lender_in, lender_found, marker_found, IsDone}
use Rattle.pb_marker_world.specs.Found.{IsFoundAt, marked_from, stage_marked}
use Rattle.pb_marker_world.proofs.Tests.{identity_is, identity_self, marker_is, marker_self, list_any_at}
use Rattle.pb_marker_world.proofs.Lists.{list_any_find, has_object-push, has_marker-push, has_object-forget, has_marker-forget}
use Rattle.pb_marker_world.proofs.Books.{book_written, world-written, world-dropped}
use Rattle.pb_marker_world.proofs.Asked.{asked_at, placed_at, kept_places}

module _ (b : Book) (at : ℕ) (f : Found) (found : IsFoundAt b.places at f) where
  pub put_object_done : f.entry.stage ≡ Intended → f.entry.lender ≡ None
      → IsDone b (PutObject at) Done
      (book_written b f.store f.number (Some (at_stage f.entry Put)) (b.objects ++ f.entry.object ∷ []) b.markers)
  put_object_done st ln =
      let w = world_of b in
      let names = with_object w.names f.entry.object in
      record {
        store = f.store;
        step = PutsObject f.number;
        asked = asked_at b at PutsObject f found;
        went = record {
          after = moved (local_of w f.store) f.number (at_stage f.entry Put) names;
          happens = record { entry = f.entry; at = record { stands = found.stands; come = st }; no_lender = ln; left = refl };
          left = world-written b f.store f.number f.entry (at_stage f.entry Put) (b.objects ++ f.entry.object ∷ []) b.markers names found.stands
              (λ o. has_object-push b.objects f.entry.object o) (λ m. refl);
        };
        room = tt;
        answered = refl;
        same_places = kept_places b f.store f.number (Some (at_stage f.entry Put));
      }

  pub put_marker_done : (stage : Stage) → stage_marked f.entry ≡ Some stage
      → IsDone b (PutMarker at) Done
      (book_written b f.store f.number (Some (at_stage f.entry stage)) b.objects
      (b.markers ++ own_marker f.store f.number f.entry ∷ []))
  put_marker_done stage q =
      let w = world_of b in
      let own = own_marker f.store f.number f.entry in
      let names = with_marker w.names own in
      record {
        store = f.store;
        step = PutsMarker f.number;
        asked = asked_at b at PutsMarker f found;
        went = record {
          after = moved (local_of w f.store) f.number (at_stage f.entry stage) names;
          happens = how f.entry.stage f.entry.lender refl refl q;
          left = world-written b f.store f.number f.entry (at_stage f.entry stage) b.objects (b.markers ++ own ∷ []) names found.stands
              (λ o. refl) (λ m. has_marker-push b.markers own m);
        };
        room = tt;
        answered = refl;
        same_places = kept_places b f.store f.number (Some (at_stage f.entry stage));
      }
    where
      how : (st : Stage) (ln : Option Marker) → f.entry.stage ≡ st → f.entry.lender ≡ ln → marked_from st ln ≡ Some stage
          → Happens f.store (local_of (world_of b) f.store) (PutsMarker f.number)
          (moved (local_of (world_of b) f.store) f.number (at_stage f.entry stage)
          (with_marker (world_of b).names (own_marker f.store f.number f.entry)))
      how Put ln p r h = record {
        entry = f.entry;
        how = inl (record {
          at = record { stands = found.stands; come = p };
          left = ap (λ x. moved (local_of (world_of b) f.store) f.number (at_stage f.entry x)
              (with_marker (world_of b).names (own_marker f.store f.number f.entry))) (sym (same_Some Held stage h));
        });
      }
      how Intended (Some m) p r h = record {
        entry = f.entry;
        how = inr (record {
          at = record { stands = found.stands; come = p };
          lender = m;
          lent = r;
          left = ap (λ x. moved (local_of (world_of b) f.store) f.number (at_stage f.entry x)
              (with_marker (world_of b).names (own_marker f.store f.number f.entry))) (sym (same_Some Marked stage h));
        });
      }
      how Intended None p r h = absurd (cc)
      how Marked ln p r h = absurd (cc)
      how Held ln p r h = absurd (cc)
      how Loose ln p r h = absurd (cc)
      how Bare ln p r h = absurd (cc)
      how Counted ln p r h = absurd (cc)
      how Ended ln p r h = absurd (cc)

  lenders_agree : (o : Option Marker) → lender_in b.markers o ≡ lender_stands (world_of b).names o
  lenders_agree None = refl
  lenders_agree (Some m) = refl

  pub check_done : f.entry.stage ≡ Marked
      → IsDone b (Check at) (Present (lender_in b.markers f.entry.lender))
      (book_written b f.store f.number
      (Some (settled f.entry (if lender_in b.markers f.entry.lender then Held else Loose))) b.objects b.markers)
  check_done st =
      let w = world_of b in
      let next = settled f.entry (if lender_in b.markers f.entry.lender then Held else Loose) in
      record {
        store = f.store;
        step = Checks f.number;
        asked = asked_at b at Checks f found;
        went = record {
          after = moved (local_of w f.store) f.number next w.names;
          happens = record {
            entry = f.entry;
            at = record { stands = found.stands; come = st };
            left = ap (λ x. moved (local_of w f.store) f.number (settled f.entry (if x then Held else Loose)) w.names)
                (lenders_agree f.entry.lender);
          };
          left = world-written b f.store f.number f.entry next b.objects b.markers w.names found.stands (λ o. refl) (λ m. refl);
        };
        room = tt;
        answered = ap (λ o. Present (lender_found b o)) (sym (placed_at b.places at f found));
        same_places = kept_places b f.store f.number (Some next);
      }

  pub delete_marker_done : ((f.entry.stage ≡ Held) ⊎ (f.entry.stage ≡ Loose))
      → list_any (protects f.store (opening_in b.openings f.store) (own_marker f.store f.number f.entry)) b.given ≡ false
      → IsDone b (DeleteMarker at) Done
      (book_written b f.store f.number (Some (at_stage f.entry Bare)) b.objects
      (filter (λ x. not (same_marker x (own_marker f.store f.number f.entry))) b.markers))
  delete_marker_done st free =
      let w = world_of b in
      let own = own_marker f.store f.number f.entry in
      let names = without_marker w.names own in
      let markers = filter (λ x. not (same_marker x own)) b.markers in
      record {
        store = f.store;
        step = DeletesMarker f.number;
        asked = asked_at b at DeletesMarker f found;
        went = record {
          after = moved (local_of w f.store) f.number (at_stage f.entry Bare) names;
          happens = record {
            entry = f.entry;
            at = elim st [
              | inl q ↦ inl (record { stands = found.stands; come = q })
              | inr q ↦ inr (record { stands = found.stands; come = q })
            ];
            unprotected = free;
            left = refl;
          };
          left = world-written b f.store f.number f.entry (at_stage f.entry Bare) b.objects markers names found.stands
              (λ o. refl) (λ m. has_marker-forget b.markers own m);
        };
        room = tt;
        answered = refl;
        same_places = kept_places b f.store f.number (Some (at_stage f.entry Bare));
      }

  marked_if : list_any (λ m. same_identity m.object f.entry.object) b.markers ≡ true → IsMarked (world_of b).names f.entry.object
  marked_if p =
      let u = list_any_find (λ (m : Marker). same_identity m.object f.entry.object) b.markers p in
      record {
        marker = u.item;
        same = identity_is u.item.object f.entry.object u.passes;
        present = list_any_at (λ x. same_marker x u.item) b.markers u.at u.item u.there (marker_self u.item u.item refl);
      }

  unmarked_if : list_any (λ m. same_identity m.object f.entry.object) b.markers ≡ false
      → IsMarked (world_of b).names f.entry.object → ⊥
  unmarked_if p m =
      let u = list_any_find (λ x. same_marker x m.marker) b.markers m.present in
      both_ways (list_any (λ (x : Marker). same_identity x.object f.entry.object) b.markers) p
      (list_any_at (λ (x : Marker). same_identity x.object f.entry.object) b.markers u.at u.item u.there
      (identity_self u.item.object f.entry.object (ap (λ (x : Marker). x.object) (marker_is u.item m.marker u.passes) ∙ m.same)))

  pub count_done : f.entry.stage ≡ Bare
      → IsDone b (Count at) (Any (list_any (λ m. same_identity m.object f.entry.object) b.markers))
      (book_written b f.store f.number
      (Some (at_stage f.entry (if list_any (λ m. same_identity m.object f.entry.object) b.markers then Ended else Counted)))
      b.objects b.markers)
  count_done st =
      let w = world_of b in
      let any = list_any (λ (m : Marker). same_identity m.object f.entry.object) b.markers in
      let next = at_stage f.entry (if any then Ended else Counted) in
      record {
        store = f.store;
        step = Counts f.number;
        asked = asked_at b at Counts f found;
        went = record {
          after = moved (local_of w f.store) f.number next w.names;
          happens = record {
            entry = f.entry;
            at = record { stands = found.stands; come = st };
            how = elim (cases_Bool any) [
              | inl q ↦ inr (record {
                some = marked_if q;
                left = ap (λ x. moved (local_of w f.store) f.number (at_stage f.entry x) w.names) (cond-true any Ended Counted q);
              })
              | inr q ↦ inl (record {
                none = unmarked_if q;
                left = ap (λ x. moved (local_of w f.store) f.number (at_stage f.entry x) w.names) (cond-false any Ended Counted q);
              })
            ];
          };
          left = world-written b f.store f.number f.entry next b.objects b.markers w.names found.stands (λ o. refl) (λ m. refl);
        };
        room = tt;
        answered = ap (λ o. Any (marker_found b o)) (sym (placed_at b.places at f found));
        same_places = kept_places b f.store f.number (Some next);
      }

  pub delete_object_done : f.entry.stage ≡ Counted
      → IsDone b (DeleteObject at) Done
      (book_written b f.store f.number (Some (at_stage f.entry Ended))
      (filter (λ x. not (same_identity x f.entry.object)) b.objects) b.markers)
  delete_object_done st =
      let w = world_of b in
      let names = without_object w.names f.entry.object in
      let objects = filter (λ x. not (same_identity x f.entry.object)) b.objects in
      record {
        store = f.store;
        step = DeletesObject f.number;
        asked = asked_at b at DeletesObject f found;
        went = record {
          after = moved (local_of w f.store) f.number (at_stage f.entry Ended) names;
          happens = record { entry = f.entry; at = record { stands = found.stands; come = st }; left = refl };
          left = world-written b f.store f.number f.entry (at_stage f.entry Ended) objects b.markers names found.stands
              (λ o. has_object-forget b.objects f.entry.object o) (λ m. refl);
        };
        room = tt;
        answered = refl;
        same_places = kept_places b f.store f.number (Some (at_stage f.entry Ended));
      }

  pub drop_done : f.entry.stage ≡ Ended
      → IsDone b (Drop at) Done (book_written b f.store f.number None b.objects b.markers)
  drop_done st =
      let w = world_of b in
      record {
        store = f.store;
        step = Drops f.number;
        asked = asked_at b at Drops f found;
        went = record {
          after = with_part (local_of w f.store) (with_entry (part_of b f.store) f.number None);
          happens = record { entry = f.entry; at = record { stands = found.stands; come = st }; left = refl };
          left = world-dropped b f.store f.number f.entry found.stands;
        };
        room = tt;
        answered = refl;
        same_places = kept_places b f.store f.number None;
      }
