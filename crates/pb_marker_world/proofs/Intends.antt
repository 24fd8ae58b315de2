-- A new entry under a number that wasn't used keeps a steady world steady.
use Rattle.std.proofs.Common.{◌≡◌, ℕ, ◌≤◌, true, false, ◌⊎◌, inl, inr, Option, Some, None, refl, sym, ap, ◌∙◌, subst}
use Rattle.std.specs.Prelude.{◌==◌}
use Rattle.std.proofs.lemmas.Bool.{both_ways, false≢true, false_from_ne_true, or_left, or_right, cases_eq, eq-eqb}
use Rattle.std.proofs.lemmas.Option.{same_Some}
use Rattle.pb_names.specs.Identity.{Identity}
use Rattle.pb_marker_world.specs.declared.stages.Stage.TheVariants.{Intended, Put, Held, Counted}
use Rattle.pb_marker_world.specs.Machine.{Marker, Entry, Part, World, local_of, with_local, entry_at, identity}
use Rattle.pb_marker_world.specs.Steps.{MayIntend, OffersObject, new_entry, with_part, with_entry, with_used}
use Rattle.pb_marker_world.specs.Sound.{shows_marker, is_put, IsDoomed, IsLent, IsFresh, IsSteady, OwnMarkersStand, HeldObjectsStand, LentMarkersAreSafe, OpenHandlesLendHeld, MarkersAreAccounted, ObjectsAreAnswered, EntriesUseNumbers, BeginningsAreFresh, IntendedMakeTheirOwn, PutAreTheirOwn, LendersAreOfTheObject}
use Rattle.pb_marker_world.proofs.Worlds.{place_cases, part_here, part_there, entry_set, entry_kept, opening_kept}
use Rattle.pb_marker_world.proofs.Moves.{S7_objects_from, S7_markers_from}

abbrev pub part_intending : Part → ℕ → Identity → Option Marker → Part
part_intending part n o lender = with_entry (with_used part n) n (Some (new_entry o lender))

module _ (w : World) (s n : ℕ) (o : Identity) (lender : Option Marker) (b : IsSteady w)
    (unused : (w.parts s).used n ≡ false) (may : MayIntend s (local_of w s) n o lender) where
  abbrev v : World
  v = with_local w s (with_part (local_of w s) (part_intending (w.parts s) n o lender))

  back : (t k : ℕ) (x : Entry) → entry_at v t k ≡ Some x
      → ((t ≡ s) × (k ≡ n) × (x ≡ new_entry o lender)) ⊎ (entry_at w t k ≡ Some x)
  back t k x p =
      let l = with_part (local_of w s) (part_intending (w.parts s) n o lender) in
      elim (place_cases t k s n) [
        | inl a ↦ inl (
          a.0,
          a.1,
          same_Some x (new_entry o lender)
              (sym p ∙ entry_set w s n l (Some (new_entry o lender)) (λ k. refl) t k a.0 a.1),
        )
        | inr a ↦ inr (sym (entry_kept w s n l (Some (new_entry o lender)) (λ k. refl) t k a) ∙ p)
      ]

  forth : (t k : ℕ) (x : Entry) → entry_at w t k ≡ Some x → entry_at v t k ≡ Some x
  forth t k x p =
      let l = with_part (local_of w s) (part_intending (w.parts s) n o lender) in
      elim (place_cases t k s n) [
        | inl a ↦ absurd (both_ways ((w.parts s).used n) unused
            (ap (λ y. (w.parts s).used y) (sym a.1) ∙ (ap (λ y. (w.parts y).used k) (sym a.0) ∙ (b.sound.S7_entries t k x p).own)))
        | inr a ↦ entry_kept w s n l (Some (new_entry o lender)) (λ k. refl) t k a ∙ p
      ]

  opening : (t : ℕ) → (v.parts t).opening ≡ (w.parts t).opening
  opening t = opening_kept w s (with_part (local_of w s) (part_intending (w.parts s) n o lender)) refl t

  used_more : (t k : ℕ) → (w.parts t).used k ≡ true → (v.parts t).used k ≡ true
  used_more t k p =
      let l = with_part (local_of w s) (part_intending (w.parts s) n o lender) in
      elim (cases_eq t s) [
        | inl q ↦ ap (λ (x : Part). x.used k) (part_here w s l t q)
            ∙ or_right (k == n) ((w.parts s).used k) (ap (λ y. (w.parts y).used k) (sym q) ∙ p)
        | inr q ↦ ap (λ (x : Part). x.used k) (part_there w s l t q) ∙ p
      ]

  used_here : (t k : ℕ) → t ≡ s → k ≡ n → (v.parts t).used k ≡ true
  used_here t k q r =
      let l = with_part (local_of w s) (part_intending (w.parts s) n o lender) in
      ap (λ (x : Part). x.used k) (part_here w s l t q) ∙ or_left (k == n) ((w.parts s).used k) (eq-eqb k n r)

  -- a handle offers a marker of the object
  record IsFromHandle : Type 0 where
    marker : Marker
    offers : OffersObject w.lendings marker o

  -- the object is one that the number makes, or is from a handle
  origin : (o ≡ identity s n) ⊎ IsFromHandle
  origin = go lender may
    where
      go : (x : Option Marker) → MayIntend s (local_of w s) n o x → (o ≡ identity s n) ⊎ IsFromHandle
      go None p = inl p
      go (Some m) p = inr (record { marker = m; offers = p })

  from_handle : (m : Marker) → lender ≡ Some m → OffersObject w.lendings m o
  from_handle m q = subst (λ x. MayIntend s (local_of w s) n o x) q may

  alone_own : lender ≡ None → o ≡ identity s n
  alone_own q = subst (λ x. MayIntend s (local_of w s) n o x) q may

  -- no number that is used makes the new object
  not_used : (x : Identity) → x ≡ identity s n → (w.parts x.creator).used x.number ≡ true → ⊥
  not_used x q p =
      both_ways ((w.parts s).used n) unused (ap (λ (y : Identity). (w.parts y.creator).used y.number) (sym q) ∙ p)

  object_used : (v.parts o.creator).used o.number ≡ true
  object_used =
      elim origin [
        | inl q ↦ used_here o.creator o.number (ap (λ (y : Identity). y.creator) q) (ap (λ (y : Identity). y.number) q)
        | inr q ↦ used_more o.creator o.number
            (ap (λ (y : Identity). (w.parts y.creator).used y.number) (sym q.offers.same)
            ∙ (b.sound.S3 q.marker (inl q.offers.offered)).object_number)
      ]

  doomed_back : (q : Identity) → IsDoomed v q → IsDoomed w q
  doomed_back q d =
      elim (back d.store d.number d.entry d.stands) [
        | inl r ↦ let clash : Intended ≡ Counted = ap (λ (y : Entry). y.stage) (sym r.2) ∙ d.counted in absurd (cc)
        | inr r ↦ record {
          store = d.store;
          number = d.number;
          entry = d.entry;
          stands = r;
          same = d.same;
          counted = d.counted;
        }
      ]

  lent_back : (m : Marker) → IsLent v m → IsLent w m
  lent_back m l =
      elim l [
        | inl d ↦ inl d
        | inr d ↦ elim (back d.store d.number d.entry d.stands) [
          | inl r ↦ inl (from_handle m (ap (λ (y : Entry). y.lender) (sym r.2) ∙ d.lent)).offered
          | inr r ↦ inr (record { store = d.store; number = d.number; entry = d.entry; stands = r; lent = d.lent })
        ]
      ]

  new_S1 : OwnMarkersStand v
  new_S1 t k x p q =
      elim (back t k x p) [
        | inl r ↦ absurd (false≢true (ap (λ (y : Entry). shows_marker y.stage) (sym r.2) ∙ q))
        | inr r ↦ b.sound.S1 t k x r q
      ]

  new_S2 : HeldObjectsStand v
  new_S2 t k x p q =
      elim (back t k x p) [
        | inl r ↦ let clash : Intended ≡ Held = ap (λ (y : Entry). y.stage) (sym r.2) ∙ q in absurd (cc)
        | inr r ↦
            let u = b.sound.S2 t k x r q in
            record { present = u.present; spared = λ d. u.spared (doomed_back x.object d) }
      ]

  new_S3 : LentMarkersAreSafe v
  new_S3 m l =
      let g = b.sound.S3 m (lent_back m l) in
      record {
        number = used_more m.store m.number g.number;
        object_number = used_more m.object.creator m.object.number g.object_number;
        arrived = λ x p q. elim (back m.store m.number x p) [
          | inl r ↦ absurd (both_ways ((w.parts s).used n) unused
              (ap (λ y. (w.parts s).used y) (sym r.1) ∙ (ap (λ y. (w.parts y).used m.number) (sym r.0) ∙ g.number)))
          | inr r ↦ g.arrived x r q
        ];
        stands = g.stands;
        safe = λ p d. g.safe p (doomed_back m.object d);
      }

  new_S4 : OpenHandlesLendHeld v
  new_S4 h g k m p a q r =
      let u = b.sound.S4 h g k m p a (q ∙ opening g.store) r in
      record { entry = u.entry; stands = forth g.store m.number u.entry u.stands; held = u.held; own = u.own }

  new_S5 : MarkersAreAccounted v
  new_S5 m p =
      let u = b.sound.S5 m p in
      record { entry = u.entry; stands = forth m.store m.number u.entry u.stands; same = u.same; shows = u.shows }

  new_S6 : ObjectsAreAnswered v
  new_S6 q p =
      let u = b.sound.S6 q p in
      record {
        store = u.store;
        number = u.number;
        entry = u.entry;
        stands = forth u.store u.number u.entry u.stands;
        same = u.same;
        answers = u.answers;
      }

  new_S7 : EntriesUseNumbers v
  new_S7 t k x p =
      elim (back t k x p) [
        | inl r ↦ record {
          own = used_here t k r.0 r.1;
          object = ap (λ (y : Entry). (v.parts y.object.creator).used y.object.number) r.2 ∙ object_used;
        }
        | inr r ↦
            let u = b.sound.S7_entries t k x r in
            record { own = used_more t k u.own; object = used_more x.object.creator x.object.number u.object }
      ]

  own_object : (t k : ℕ) (x : Entry) → t ≡ s → k ≡ n → x.object ≡ identity t k → x.object ≡ identity s n
  own_object t k x p q r = r ∙ (λ i. record { creator = p i; number = q i })

  fresh_here : (t k : ℕ) (x : Entry) → t ≡ s → k ≡ n → x.object ≡ identity s n → x.stage ≡ Intended → IsFresh v t k x
  fresh_here t k x ts kn same st =
      record {
        unmarked = λ m q. false_from_ne_true (w.names.markers m) (λ y.
            not_used m.object (q ∙ same) (b.sound.S7_markers m y).1);
        alone = λ t2 k2 x2 p2 o2. elim (back t2 k2 x2 p2) [
          | inl r ↦ (r.0 ∙ sym ts, r.1 ∙ sym kn)
          | inr r ↦ absurd (not_used x2.object (o2 ∙ same) (b.sound.S7_entries t2 k2 x2 r).object)
        ];
        unlent = λ m d q. not_used m.object (q ∙ same) (b.sound.S3 m (inl d)).object_number;
        present =
            false_from_ne_true (w.names.objects x.object) (λ y. not_used x.object same (b.sound.S7_objects x.object y))
            ∙ sym (ap is_put st);
      }

  fresh_there : (t k : ℕ) (x : Entry) → entry_at w t k ≡ Some x → IsFresh w t k x → IsFresh v t k x
  fresh_there t k x p fresh =
      record {
        unmarked = fresh.unmarked;
        alone = λ t2 k2 x2 p2 o2. elim (back t2 k2 x2 p2) [
          | inl r ↦
              let same : o ≡ x.object = ap (λ (y : Entry). y.object) (sym r.2) ∙ o2 in
              absurd (elim origin [
                | inl q ↦ not_used x.object (sym same ∙ q) (b.sound.S7_entries t k x p).object
                | inr q ↦ fresh.unlent q.marker q.offers.offered (q.offers.same ∙ same)
              ])
          | inr r ↦ fresh.alone t2 k2 x2 r o2
        ];
        unlent = fresh.unlent;
        present = fresh.present;
      }

  new_S8 : BeginningsAreFresh v
  new_S8 t k x p q r =
      elim (back t k x p) [
        | inl z ↦ fresh_here t k x z.0 z.1 (own_object t k x z.0 z.1 q) (ap (λ (y : Entry). y.stage) z.2)
        | inr z ↦ fresh_there t k x z (b.sound.S8 t k x z q r)
      ]

  new_makes_own : IntendedMakeTheirOwn v
  new_makes_own t k x p q r =
      elim (back t k x p) [
        | inl z ↦ ap (λ (y : Entry). y.object) z.2
            ∙ (alone_own (ap (λ (y : Entry). y.lender) (sym z.2) ∙ r) ∙ (λ i. record { creator = sym z.0 i; number = sym z.1 i }))
        | inr z ↦ b.makes_own t k x z q r
      ]

  new_put_own : PutAreTheirOwn v
  new_put_own t k x p q =
      elim (back t k x p) [
        | inl z ↦ let clash : Intended ≡ Put = ap (λ (y : Entry). y.stage) (sym z.2) ∙ q in absurd (cc)
        | inr z ↦ b.put_own t k x z q
      ]

  new_same_object : LendersAreOfTheObject v
  new_same_object t k x m p q =
      elim (back t k x p) [
        | inl z ↦ (from_handle m (ap (λ (y : Entry). y.lender) (sym z.2) ∙ q)).same ∙ ap (λ (y : Entry). y.object) (sym z.2)
        | inr z ↦ b.same_object t k x m z q
      ]

  pub intend_steady : IsSteady v
  intend_steady =
      record {
        sound = record {
          S1 = new_S1;
          S2 = new_S2;
          S3 = new_S3;
          S4 = new_S4;
          S5 = new_S5;
          S6 = new_S6;
          S7_entries = new_S7;
          S7_objects = S7_objects_from v new_S6 new_S7;
          S7_markers = S7_markers_from v new_S5 new_S7;
          S8 = new_S8;
        };
        makes_own = new_makes_own;
        put_own = new_put_own;
        same_object = new_same_object;
        past = λ h g p. subst (λ x. g.opening ≤ x) (sym (opening g.store)) (b.past h g p);
      }
