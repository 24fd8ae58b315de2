-- A store is closed, stopped or lost, and all its entries but those kept are Loose: a steady world stays steady.
use Rattle.std.proofs.Common.{◌≡◌, ℕ, ◌+◌, Bool, true, false, ◌⊎◌, inl, inr, Option, Some, None, List, refl, sym, ap, ◌∙◌, subst, arith}
use Rattle.std.specs.Prelude.{◌==◌, if◌then◌else◌}
use Rattle.std.specs.List.{list_any}
use Rattle.std.specs.Option.{option_map}
use Rattle.std.proofs.lemmas.Bool.{both_ways, cases_Bool, cases_eq, cond-true, cond-false}
use Rattle.std.proofs.lemmas.Option.{same_Some}
use Rattle.pb_names.specs.Identity.{Identity}
use Rattle.pb_marker_world.specs.declared.stages.Stage.{Stage}
use Rattle.pb_marker_world.specs.declared.stages.Stage.TheVariants.{Loose, Counted}
use Rattle.pb_marker_world.specs.Machine.{Marker, Entry, Part, World, local_of, with_local, entry_at, own_marker}
use Rattle.pb_marker_world.specs.Steps.{settled, with_part, crashed}
use Rattle.pb_marker_world.specs.Sound.{shows_marker, may_show_marker, is_on_its_way, is_beginning, is_put, answers_for_object, IsDoomed, IsLent, IsSteady, OwnMarkersStand, HeldObjectsStand, LentMarkersAreSafe, OpenHandlesLendHeld, MarkersAreAccounted, ObjectsAreAnswered, EntriesUseNumbers, BeginningsAreFresh, IntendedMakeTheirOwn, PutAreTheirOwn, LendersAreOfTheObject, HandlesAreOfThePast}
use Rattle.pb_marker_world.proofs.Worlds.{part_here, part_there, used_kept}
use Rattle.pb_marker_world.proofs.Moves.{S7_objects_from, S7_markers_from}

-- the entry is as before, or Loose with no lender any more
abbrev pub IsLoosened : Entry → Entry → Type 0
IsLoosened old new = (new ≡ old) ⊎ (new ≡ settled old Loose)

-- what stands in one of the worlds, where this entry stands in the other
record Was (o : Option Entry) (x : Entry) : Type 0 where
  entry : Entry
  stands : o ≡ Some entry
  how : IsLoosened entry x

record Is (o : Option Entry) (y : Entry) : Type 0 where
  entry : Entry
  stands : o ≡ Some entry
  how : IsLoosened y entry

mapped_back : (o : Option Entry) (x : Entry) → option_map (λ e. settled e Loose) o ≡ Some x → Was o x
mapped_back None x p = absurd (cc)
mapped_back (Some y) x p = record { entry = y; stands = refl; how = inr (sym (same_Some (settled y Loose) x p)) }

module _ (w : World) (s : ℕ) (kept : List ℕ) (b : IsSteady w) where
  abbrev v : World
  v = with_local w s (with_part (local_of w s) (crashed (w.parts s) kept))

  -- what stands under a number of the store
  inside : (t k : ℕ) → t ≡ s
      → entry_at v t k ≡ (if list_any (λ n. n == k) kept then entry_at w t k else option_map (λ e. settled e Loose) (entry_at w t k))
  inside t k q =
      ap (λ (p : Part). p.entries k) (part_here w s (with_part (local_of w s) (crashed (w.parts s) kept)) t q)
      ∙ ap (λ x. if list_any (λ n. n == k) kept then entry_at w x k else option_map (λ e. settled e Loose) (entry_at w x k)) (sym q)

  outside : (t k : ℕ) → (t ≡ s → ⊥) → entry_at v t k ≡ entry_at w t k
  outside t k q =
      ap (λ (p : Part). p.entries k) (part_there w s (with_part (local_of w s) (crashed (w.parts s) kept)) t q)

  back : (t k : ℕ) (x : Entry) → entry_at v t k ≡ Some x → Was (entry_at w t k) x
  back t k x p =
      elim (cases_eq t s) [
        | inl q ↦ elim (cases_Bool (list_any (λ n. n == k) kept)) [
          | inl r ↦ record { entry = x; stands = sym (inside t k q ∙ cond-true _ _ _ r) ∙ p; how = inl refl }
          | inr r ↦ mapped_back (entry_at w t k) x (sym (inside t k q ∙ cond-false _ _ _ r) ∙ p)
        ]
        | inr q ↦ record { entry = x; stands = sym (outside t k q) ∙ p; how = inl refl }
      ]

  forth : (t k : ℕ) (y : Entry) → entry_at w t k ≡ Some y → Is (entry_at v t k) y
  forth t k y p =
      elim (cases_eq t s) [
        | inl q ↦ elim (cases_Bool (list_any (λ n. n == k) kept)) [
          | inl r ↦ record { entry = y; stands = inside t k q ∙ (cond-true _ _ _ r ∙ p); how = inl refl }
          | inr r ↦ record {
            entry = settled y Loose;
            stands = inside t k q ∙ (cond-false _ _ _ r ∙ ap (λ o. option_map (λ e. settled e Loose) o) p);
            how = inr refl;
          }
        ]
        | inr q ↦ record { entry = y; stands = outside t k q ∙ p; how = inl refl }
      ]

  same_object : (y x : Entry) → IsLoosened y x → x.object ≡ y.object
  same_object y x d =
      elim d [ inl q ↦ ap (λ (a : Entry). a.object) q | inr q ↦ ap (λ (a : Entry). a.object) q ]

  used : (t k : ℕ) → (v.parts t).used k ≡ (w.parts t).used k
  used t k = used_kept w s (with_part (local_of w s) (crashed (w.parts s) kept)) refl t k

  doomed_back : (o : Identity) → IsDoomed v o → IsDoomed w o
  doomed_back o d =
      let u = back d.store d.number d.entry d.stands in
      elim u.how [
        | inl q ↦ record {
          store = d.store;
          number = d.number;
          entry = u.entry;
          stands = u.stands;
          same = ap (λ (a : Entry). a.object) (sym q) ∙ d.same;
          counted = ap (λ (a : Entry). a.stage) (sym q) ∙ d.counted;
        }
        | inr q ↦ let clash : Loose ≡ Counted = ap (λ (a : Entry). a.stage) (sym q) ∙ d.counted in absurd (cc)
      ]

  lender_back : (y x : Entry) (m : Marker) → IsLoosened y x → x.lender ≡ Some m → y.lender ≡ Some m
  lender_back y x m d p =
      elim d [
        | inl q ↦ ap (λ (a : Entry). a.lender) (sym q) ∙ p
        | inr q ↦ let clash : None ≡ Some m = ap (λ (a : Entry). a.lender) (sym q) ∙ p in absurd (cc)
      ]

  lent_back : (m : Marker) → IsLent v m → IsLent w m
  lent_back m l =
      elim l [
        | inl d ↦ inl d
        | inr d ↦
            let u = back d.store d.number d.entry d.stands in
            inr (record {
              store = d.store;
              number = d.number;
              entry = u.entry;
              stands = u.stands;
              lent = lender_back u.entry d.entry m u.how d.lent;
            })
      ]

  -- a stage that Loose isn't at was there before
  stage_back : (test : Stage → Bool) (y x : Entry) → test Loose ≡ false → IsLoosened y x → test x.stage ≡ true → x ≡ y
  stage_back test y x lost d p =
      elim d [
        | inl q ↦ q
        | inr q ↦ absurd (both_ways (test x.stage) (ap (λ (a : Entry). test a.stage) q ∙ lost) p)
      ]

  lost_S1 : OwnMarkersStand v
  lost_S1 t k x p q =
      let u = back t k x p in
      let same = stage_back shows_marker u.entry x refl u.how q in
      ap (λ (a : Entry). w.names.markers (own_marker t k a)) same
      ∙ b.sound.S1 t k u.entry u.stands (ap (λ (a : Entry). shows_marker a.stage) (sym same) ∙ q)

  lost_S2 : HeldObjectsStand v
  lost_S2 t k x p q =
      let u = back t k x p in
      let same = stage_back shows_marker u.entry x refl u.how (ap shows_marker q) in
      let held = b.sound.S2 t k u.entry u.stands (ap (λ (a : Entry). a.stage) (sym same) ∙ q) in
      record {
        present = ap (λ (a : Entry). w.names.objects a.object) same ∙ held.present;
        spared = λ d. held.spared (subst (λ (a : Entry). IsDoomed w a.object) same (doomed_back x.object d));
      }

  lost_S3 : LentMarkersAreSafe v
  lost_S3 m l =
      let g = b.sound.S3 m (lent_back m l) in
      record {
        number = used m.store m.number ∙ g.number;
        object_number = used m.object.creator m.object.number ∙ g.object_number;
        arrived = λ x p q.
            let u = back m.store m.number x p in
            elim u.how [
              | inl r ↦ ap (λ (a : Entry). is_on_its_way a.stage) r
                  ∙ g.arrived u.entry u.stands (ap (λ (a : Entry). a.object) (sym r) ∙ q)
              | inr r ↦ ap (λ (a : Entry). is_on_its_way a.stage) r
            ];
        stands = g.stands;
        safe = λ p d. g.safe p (doomed_back m.object d);
      }

  opening_here : (t : ℕ) → t ≡ s → (v.parts t).opening ≡ (w.parts t).opening + 1
  opening_here t q =
      ap (λ (p : Part). p.opening) (part_here w s (with_part (local_of w s) (crashed (w.parts s) kept)) t q)
      ∙ ap (λ x. (w.parts x).opening + 1) (sym q)

  opening_there : (t : ℕ) → (t ≡ s → ⊥) → (v.parts t).opening ≡ (w.parts t).opening
  opening_there t q =
      ap (λ (p : Part). p.opening) (part_there w s (with_part (local_of w s) (crashed (w.parts s) kept)) t q)

  lost_S4 : OpenHandlesLendHeld v
  lost_S4 h g k m p a q r =
      elim (cases_eq g.store s) [
        | inl here ↦
            let later : g.opening ≡ (w.parts g.store).opening + 1 = q ∙ opening_here g.store here in
            let past = b.past h g p in
            absurd (omega arith)
        | inr there ↦
            let u = b.sound.S4 h g k m p a (q ∙ opening_there g.store there) r in
            record { entry = u.entry; stands = outside g.store m.number there ∙ u.stands; held = u.held; own = u.own }
      ]

  lost_S5 : MarkersAreAccounted v
  lost_S5 m p =
      let u = b.sound.S5 m p in
      let z = forth m.store m.number u.entry u.stands in
      record {
        entry = z.entry;
        stands = z.stands;
        same = same_object u.entry z.entry z.how ∙ u.same;
        shows = elim z.how [
          | inl q ↦ ap (λ (a : Entry). may_show_marker a.stage) q ∙ u.shows
          | inr q ↦ ap (λ (a : Entry). may_show_marker a.stage) q
        ];
      }

  lost_S6 : ObjectsAreAnswered v
  lost_S6 o p =
      let u = b.sound.S6 o p in
      let z = forth u.store u.number u.entry u.stands in
      record {
        store = u.store;
        number = u.number;
        entry = z.entry;
        stands = z.stands;
        same = same_object u.entry z.entry z.how ∙ u.same;
        answers = elim z.how [
          | inl q ↦ ap (λ (a : Entry). answers_for_object a.stage) q ∙ u.answers
          | inr q ↦ ap (λ (a : Entry). answers_for_object a.stage) q
        ];
      }

  lost_S7 : EntriesUseNumbers v
  lost_S7 t k x p =
      let u = back t k x p in
      let z = b.sound.S7_entries t k u.entry u.stands in
      record {
        own = used t k ∙ z.own;
        object = used x.object.creator x.object.number
            ∙ (ap (λ (a : Identity). (w.parts a.creator).used a.number) (same_object u.entry x u.how) ∙ z.object);
      }

  lost_S8 : BeginningsAreFresh v
  lost_S8 t k x p o r =
      let u = back t k x p in
      let same = stage_back is_beginning u.entry x refl u.how r in
      let fresh = b.sound.S8 t k u.entry u.stands (ap (λ (a : Entry). a.object) (sym same) ∙ o)
      (ap (λ (a : Entry). is_beginning a.stage) (sym same) ∙ r) in
      record {
        unmarked = λ m q. fresh.unmarked m (q ∙ ap (λ (a : Entry). a.object) same);
        alone = λ t2 k2 x2 p2 o2.
            let z = back t2 k2 x2 p2 in
            fresh.alone t2 k2 z.entry z.stands (sym (same_object z.entry x2 z.how) ∙ (o2 ∙ ap (λ (a : Entry). a.object) same));
        unlent = λ m d q. fresh.unlent m d (q ∙ ap (λ (a : Entry). a.object) same);
        present = ap (λ (a : Entry). w.names.objects a.object) same
            ∙ (fresh.present ∙ ap (λ (a : Entry). is_put a.stage) (sym same));
      }

  lost_makes_own : IntendedMakeTheirOwn v
  lost_makes_own t k x p q r =
      let u = back t k x p in
      let same = stage_back is_beginning u.entry x refl u.how (ap is_beginning q) in
      ap (λ (a : Entry). a.object) same
      ∙ b.makes_own t k u.entry u.stands (ap (λ (a : Entry). a.stage) (sym same) ∙ q) (ap (λ (a : Entry). a.lender) (sym same) ∙ r)

  lost_put_own : PutAreTheirOwn v
  lost_put_own t k x p q =
      let u = back t k x p in
      let same = stage_back is_beginning u.entry x refl u.how (ap is_beginning q) in
      let z = b.put_own t k u.entry u.stands (ap (λ (a : Entry). a.stage) (sym same) ∙ q) in
      record { object = ap (λ (a : Entry). a.object) same ∙ z.object; no_lender = ap (λ (a : Entry). a.lender) same ∙ z.no_lender }

  lost_same_object : LendersAreOfTheObject v
  lost_same_object t k x m p q =
      let u = back t k x p in
      b.same_object t k u.entry m u.stands (lender_back u.entry x m u.how q) ∙ sym (same_object u.entry x u.how)

  lost_past : HandlesAreOfThePast v
  lost_past h g p =
      let past = b.past h g p in
      elim (cases_eq g.store s) [
        | inl q ↦ let later = opening_here g.store q in omega arith
        | inr q ↦ let later = opening_there g.store q in omega arith
      ]

  pub crash_steady : IsSteady v
  crash_steady =
      record {
        sound = record {
          S1 = lost_S1;
          S2 = lost_S2;
          S3 = lost_S3;
          S4 = lost_S4;
          S5 = lost_S5;
          S6 = lost_S6;
          S7_entries = lost_S7;
          S7_objects = S7_objects_from v lost_S6 lost_S7;
          S7_markers = S7_markers_from v lost_S5 lost_S7;
          S8 = lost_S8;
        };
        makes_own = lost_makes_own;
        put_own = lost_put_own;
        same_object = lost_same_object;
        past = lost_past;
      }
