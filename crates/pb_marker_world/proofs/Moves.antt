-- One entry goes on to another stage, with what that does to the names: what keeps a steady world steady.
use Rattle.std.proofs.Common.{◌≡◌, ℕ, ◌≤◌, true, false, ◌⊎◌, inl, inr, Some, None, refl, sym, ap, ◌∙◌, subst}
use Rattle.std.specs.Prelude.{slice_get}
use Rattle.std.proofs.lemmas.Bool.{both_ways, false_from_ne_true}
use Rattle.std.proofs.lemmas.Option.{same_Some}
use Rattle.pb_keys.proofs.Tests.{same_tests}
use Rattle.pb_names.specs.Identity.{Identity}
use Rattle.pb_marker_world.specs.declared.stages.Stage.TheVariants.{Intended, Put, Held, Counted}
use Rattle.pb_marker_world.specs.Machine.{Marker, Entry, Names, Lending, World, local_of, with_local, entry_at, identity, own_marker}
use Rattle.pb_marker_world.specs.Steps.{IsOffered, moved}
use Rattle.pb_marker_world.specs.Sound.{shows_marker, may_show_marker, is_on_its_way, is_beginning, is_put, answers_for_object, IsAccounted, IsAnswered, IsDoomed, IsLent, IsLentSafely, IsFresh, IsSteady, OwnMarkersStand, HeldObjectsStand, LentMarkersAreSafe, OpenHandlesLendHeld, MarkersAreAccounted, ObjectsAreAnswered, EntriesUseNumbers, BeginningsAreFresh, IntendedMakeTheirOwn, PutAreTheirOwn, LendersAreOfTheObject, HandlesAreOfThePast}
use Rattle.pb_marker_world.proofs.Worlds.{place_cases, marker_from, entry_set, entry_kept, opening_kept, used_kept}

-- in v the entry under n of s is f in place of e, and all other entries are as before
pub record Move (w v : World) (s n : ℕ) (e f : Entry) : Type 0 where
  pub found : entry_at w s n ≡ Some e
  pub made : entry_at v s n ≡ Some f
  pub back : (t k : ℕ) (x : Entry) → entry_at v t k ≡ Some x
      → ((t ≡ s) × (k ≡ n) × (x ≡ f)) ⊎ ((t ≡ s → k ≡ n → ⊥) × (entry_at w t k ≡ Some x))
  pub forth : (t k : ℕ) (x : Entry) → entry_at w t k ≡ Some x
      → ((t ≡ s) × (k ≡ n) × (x ≡ e)) ⊎ ((t ≡ s → k ≡ n → ⊥) × (entry_at v t k ≡ Some x))
  pub used : (t k : ℕ) → (v.parts t).used k ≡ (w.parts t).used k
  pub opening : (t : ℕ) → (v.parts t).opening ≡ (w.parts t).opening
  pub lendings : v.lendings ≡ w.lendings

pub move_of : (w : World) (s n : ℕ) (e f : Entry) (names : Names) → entry_at w s n ≡ Some e
    → Move w (with_local w s (moved (local_of w s) n f names)) s n e f
move_of w s n e f names p =
    let l = moved (local_of w s) n f names in
    record {
      found = p;
      made = entry_set w s n l (Some f) (λ k. refl) s n refl refl;
      back = λ t k x q. elim (place_cases t k s n) [
        | inl a ↦ inl (a.0, a.1, same_Some x f (sym q ∙ entry_set w s n l (Some f) (λ k. refl) t k a.0 a.1))
        | inr a ↦ inr (a, sym (entry_kept w s n l (Some f) (λ k. refl) t k a) ∙ q)
      ];
      forth = λ t k x q. elim (place_cases t k s n) [
        | inl a ↦ inl (a.0, a.1, same_Some x e (sym q ∙ (ap (λ y. entry_at w y k) a.0 ∙ (ap (λ y. entry_at w s y) a.1 ∙ p))))
        | inr a ↦ inr (a, entry_kept w s n l (Some f) (λ k. refl) t k a ∙ q)
      ];
      used = used_kept w s l refl;
      opening = opening_kept w s l refl;
      lendings = refl;
    }

-- what has to hold of such a move
pub record MayMove (w v : World) (s n : ℕ) (e f : Entry) : Type 0 where
  pub move : Move w v s n e f
  pub object : f.object ≡ e.object
  pub lender : (m : Marker) → f.lender ≡ Some m → e.lender ≡ Some m
  pub marker_put : (m : Marker) → v.names.markers m ≡ true
      → (w.names.markers m ≡ true) ⊎ ((m ≡ own_marker s n e) × (is_on_its_way e.stage ≡ true) × (is_beginning f.stage ≡ false))
  pub marker_kept : (m : Marker) → w.names.markers m ≡ true → (v.names.markers m ≡ true) ⊎ (m ≡ own_marker s n e)
  pub marker_own : v.names.markers (own_marker s n e) ≡ true → may_show_marker f.stage ≡ true
  pub marker_shown : shows_marker f.stage ≡ true → v.names.markers (own_marker s n e) ≡ true
  pub object_put : (o : Identity) → v.names.objects o ≡ true → (w.names.objects o ≡ true) ⊎ (o ≡ e.object)
  pub object_kept : (o : Identity) → w.names.objects o ≡ true
      → (v.names.objects o ≡ true) ⊎ ((o ≡ e.object) × (e.stage ≡ Counted))
  pub object_answered : v.names.objects e.object ≡ true → (answers_for_object f.stage ≡ true) ⊎ IsAnswered v e.object
  pub held : f.stage ≡ Held → (v.names.objects e.object ≡ true) × (IsDoomed w e.object → ⊥)
  pub counted : f.stage ≡ Counted → (m : Marker) → m.object ≡ e.object → w.names.markers m ≡ false
  pub on_its_way : is_on_its_way f.stage ≡ true → is_on_its_way e.stage ≡ true
  pub unprotected : e.stage ≡ Held
      → (f.stage ≡ Held)
      ⊎ ((h : ℕ) (g : Lending) (k : ℕ) → slice_get w.lendings h ≡ Some g → g.is_open ≡ true → g.store ≡ s
      → g.opening ≡ (w.parts s).opening → slice_get g.markers k ≡ Some (own_marker s n e) → ⊥)
  pub beginning : is_beginning f.stage ≡ true
      → (f.stage ≡ Put) × (is_beginning e.stage ≡ true) × (v.names.objects e.object ≡ true)
  pub put_own : f.stage ≡ Put → (e.object ≡ identity s n) × (f.lender ≡ None)

pub S7_objects_from : (v : World) → ObjectsAreAnswered v → EntriesUseNumbers v → (o : Identity) → v.names.objects o ≡ true → (v.parts o.creator).used o.number ≡ true
S7_objects_from v a b o p =
    let u = a o p in
    subst (λ (x : Identity). (v.parts x.creator).used x.number ≡ true) u.same (b u.store u.number u.entry u.stands).object

pub S7_markers_from : (v : World) → MarkersAreAccounted v → EntriesUseNumbers v → (m : Marker) → v.names.markers m ≡ true
    → ((v.parts m.store).used m.number ≡ true) × ((v.parts m.object.creator).used m.object.number ≡ true)
S7_markers_from v a b m p =
    let u = a m p in
    let r = b m.store m.number u.entry u.stands in
    (r.own, subst (λ (x : Identity). (v.parts x.creator).used x.number ≡ true) u.same r.object)

module _ (w v : World) (s n : ℕ) (e f : Entry) (c : MayMove w v s n e f) (b : IsSteady w) where
  own_here : (t k : ℕ) (x : Entry) → t ≡ s → k ≡ n → x ≡ f → own_marker t k x ≡ own_marker s n e
  own_here t k x p q r =
      marker_from (own_marker t k x) e.object s n (ap (λ (y : Entry). y.object) r ∙ c.object) p q

  offered_back : (m : Marker) → IsOffered v.lendings m → IsOffered w.lendings m
  offered_back m p = subst (λ x. IsOffered x m) c.move.lendings p

  lent_back : (m : Marker) → IsLent v m → IsLent w m
  lent_back m p =
      elim p [
        | inl o ↦ inl (offered_back m o)
        | inr d ↦ elim (c.move.back d.store d.number d.entry d.stands) [
          | inl r ↦ inr (record {
            store = s;
            number = n;
            entry = e;
            stands = c.move.found;
            lent = c.lender m (ap (λ (y : Entry). y.lender) (sym r.2) ∙ d.lent);
          })
          | inr r ↦ inr (record { store = d.store; number = d.number; entry = d.entry; stands = r.1; lent = d.lent })
        ]
      ]

  doomed_back : (o : Identity) → IsDoomed v o → IsDoomed w o ⊎ ((f.stage ≡ Counted) × (o ≡ e.object))
  doomed_back o d =
      elim (c.move.back d.store d.number d.entry d.stands) [
        | inl r ↦ inr (ap (λ (y : Entry). y.stage) (sym r.2) ∙ d.counted, sym d.same ∙ (ap (λ (y : Entry). y.object) r.2 ∙ c.object))
        | inr r ↦ inl (record {
          store = d.store;
          number = d.number;
          entry = d.entry;
          stands = r.1;
          same = d.same;
          counted = d.counted;
        })
      ]

  -- the entry that goes on is Counted, so its object is doomed
  doomed_here : (o : Identity) → o ≡ e.object → e.stage ≡ Counted → IsDoomed w o
  doomed_here o p q = record { store = s; number = n; entry = e; stands = c.move.found; same = sym p; counted = q }

  moved_S1 : OwnMarkersStand v
  moved_S1 t k x p q =
      elim (c.move.back t k x p) [
        | inl r ↦ ap v.names.markers (own_here t k x r.0 r.1 r.2)
            ∙ c.marker_shown (ap (λ (y : Entry). shows_marker y.stage) (sym r.2) ∙ q)
        | inr r ↦ elim (c.marker_kept (own_marker t k x) (b.sound.S1 t k x r.1 q)) [
          | inl y ↦ y
          | inr y ↦ absurd (r.0 (ap (λ (m : Marker). m.store) y) (ap (λ (m : Marker). m.number) y))
        ]
      ]

  moved_S2 : HeldObjectsStand v
  moved_S2 t k x p q =
      elim (c.move.back t k x p) [
        | inl r ↦
            let same : x.object ≡ e.object = ap (λ (y : Entry). y.object) r.2 ∙ c.object in
            let held : f.stage ≡ Held = ap (λ (y : Entry). y.stage) (sym r.2) ∙ q in
            let u = c.held held in
            record {
              present = ap v.names.objects same ∙ u.0;
              spared = λ d. elim (doomed_back x.object d) [
                | inl y ↦ u.1 (subst (λ z. IsDoomed w z) same y)
                | inr y ↦ let clash : Held ≡ Counted = sym held ∙ y.0 in absurd (cc)
              ];
            }
        | inr r ↦
            let u = b.sound.S2 t k x r.1 q in
            record {
              present = elim (c.object_kept x.object u.present) [
                | inl y ↦ y
                | inr y ↦ absurd (u.spared (doomed_here x.object y.0 y.1))
              ];
              spared = λ d. elim (doomed_back x.object d) [
                | inl y ↦ u.spared y
                | inr y ↦ both_ways (w.names.markers (own_marker t k x)) (c.counted y.0 (own_marker t k x) y.1)
                    (b.sound.S1 t k x r.1 (ap shows_marker q))
              ];
            }
      ]

  still_marked : (m : Marker) → IsLentSafely w m → v.names.markers m ≡ true → w.names.markers m ≡ true
  still_marked m g p =
      elim (c.marker_put m p) [
        | inl y ↦ y
        | inr y ↦ absurd (both_ways (is_on_its_way e.stage)
            (g.arrived e (ap (λ (x : Marker). entry_at w x.store x.number) y.0 ∙ c.move.found)
            (sym (ap (λ (x : Marker). x.object) y.0)))
            y.1)
      ]

  moved_S3 : LentMarkersAreSafe v
  moved_S3 m l =
      let g = b.sound.S3 m (lent_back m l) in
      record {
        number = c.move.used m.store m.number ∙ g.number;
        object_number = c.move.used m.object.creator m.object.number ∙ g.object_number;
        arrived = λ x p q. elim (c.move.back m.store m.number x p) [
          | inl r ↦ false_from_ne_true (is_on_its_way x.stage) (λ y.
              both_ways (is_on_its_way e.stage)
              (g.arrived e
              (ap (λ a. entry_at w a m.number) r.0 ∙ (ap (λ a. entry_at w s a) r.1 ∙ c.move.found))
              (sym c.object ∙ (ap (λ (a : Entry). a.object) (sym r.2) ∙ q)))
              (c.on_its_way (ap (λ (a : Entry). is_on_its_way a.stage) (sym r.2) ∙ y)))
          | inr r ↦ g.arrived x r.1 q
        ];
        stands = λ p.
            let before = still_marked m g p in
            elim (c.object_kept m.object (g.stands before)) [
              | inl y ↦ y
              | inr y ↦ absurd (g.safe before (doomed_here m.object y.0 y.1))
            ];
        safe = λ p d.
            let before = still_marked m g p in
            elim (doomed_back m.object d) [
              | inl y ↦ g.safe before y
              | inr y ↦ both_ways (w.names.markers m) (c.counted y.0 m y.1) before
            ];
      }

  moved_S4 : OpenHandlesLendHeld v
  moved_S4 h g k m p o q r =
      let given : slice_get w.lendings h ≡ Some g = ap (λ x. slice_get x h) (sym c.move.lendings) ∙ p in
      let now : g.opening ≡ (w.parts g.store).opening = q ∙ c.move.opening g.store in
      let u = b.sound.S4 h g k m given o now r in
      elim (c.move.forth g.store m.number u.entry u.stands) [
        | inl z ↦ elim (c.unprotected (ap (λ (x : Entry). x.stage) (sym z.2) ∙ u.held)) [
          | inl y ↦ record {
            entry = f;
            stands = ap (λ x. entry_at v x m.number) z.0 ∙ (ap (λ x. entry_at v s x) z.1 ∙ c.move.made);
            held = y;
            own = marker_from m f.object g.store m.number
                (ap (λ (x : Marker). x.object) u.own ∙ (ap (λ (x : Entry). x.object) z.2 ∙ sym c.object))
                (ap (λ (x : Marker). x.store) u.own) refl;
          }
          | inr y ↦ absurd (y h g k given o z.0 (now ∙ ap (λ x. (w.parts x).opening) z.0)
              (r ∙ ap Some (marker_from m e.object s n
              (ap (λ (x : Marker). x.object) u.own ∙ ap (λ (x : Entry). x.object) z.2)
              (ap (λ (x : Marker). x.store) u.own ∙ z.0) z.1)))
        ]
        | inr z ↦ record { entry = u.entry; stands = z.1; held = u.held; own = u.own }
      ]

  shown_here : (m : Marker) → m.store ≡ s → m.number ≡ n → m.object ≡ e.object → v.names.markers m ≡ true
      → IsAccounted v m
  shown_here m p q r y =
      record {
        entry = f;
        stands = ap (λ x. entry_at v x m.number) p ∙ (ap (λ x. entry_at v s x) q ∙ c.move.made);
        same = c.object ∙ sym r;
        shows = c.marker_own (ap v.names.markers (sym (marker_from m e.object s n r p q)) ∙ y);
      }

  moved_S5 : MarkersAreAccounted v
  moved_S5 m p =
      elim (c.marker_put m p) [
        | inl y ↦
            let u = b.sound.S5 m y in
            elim (c.move.forth m.store m.number u.entry u.stands) [
              | inl z ↦ shown_here m z.0 z.1 (sym u.same ∙ ap (λ (x : Entry). x.object) z.2) p
              | inr z ↦ record { entry = u.entry; stands = z.1; same = u.same; shows = u.shows }
            ]
        | inr y ↦ shown_here m (ap (λ (x : Marker). x.store) y.0) (ap (λ (x : Marker). x.number) y.0)
            (ap (λ (x : Marker). x.object) y.0) p
      ]

  answered_here : (o : Identity) → o ≡ e.object → v.names.objects o ≡ true → IsAnswered v o
  answered_here o q p =
      elim (c.object_answered (ap v.names.objects (sym q) ∙ p)) [
        | inl a ↦ record { store = s; number = n; entry = f; stands = c.move.made; same = c.object ∙ sym q; answers = a }
        | inr a ↦ record {
          store = a.store;
          number = a.number;
          entry = a.entry;
          stands = a.stands;
          same = a.same ∙ sym q;
          answers = a.answers;
        }
      ]

  moved_S6 : ObjectsAreAnswered v
  moved_S6 o p =
      elim (c.object_put o p) [
        | inl y ↦
            let u = b.sound.S6 o y in
            elim (c.move.forth u.store u.number u.entry u.stands) [
              | inl z ↦ answered_here o (sym u.same ∙ ap (λ (x : Entry). x.object) z.2) p
              | inr z ↦ record {
                store = u.store;
                number = u.number;
                entry = u.entry;
                stands = z.1;
                same = u.same;
                answers = u.answers;
              }
            ]
        | inr y ↦ answered_here o y p
      ]

  moved_S7 : EntriesUseNumbers v
  moved_S7 t k x p =
      elim (c.move.back t k x p) [
        | inl r ↦
            let u = b.sound.S7_entries s n e c.move.found in
            record {
              own = c.move.used t k ∙ (ap (λ a. (w.parts a).used k) r.0 ∙ (ap (λ a. (w.parts s).used a) r.1 ∙ u.own));
              object = c.move.used x.object.creator x.object.number
                  ∙ (ap (λ (a : Identity). (w.parts a.creator).used a.number) (ap (λ (y : Entry). y.object) r.2 ∙ c.object) ∙ u.object);
            }
        | inr r ↦
            let u = b.sound.S7_entries t k x r.1 in
            record { own = c.move.used t k ∙ u.own; object = c.move.used x.object.creator x.object.number ∙ u.object }
      ]

  own_number : (t k : ℕ) (x : Entry) → t ≡ s → k ≡ n → x ≡ f → x.object ≡ identity t k → e.object ≡ identity s n
  own_number t k x p q r o =
      sym c.object ∙ (ap (λ (y : Entry). y.object) (sym r) ∙ (o ∙ (λ i. record { creator = p i; number = q i })))

  fresh_here : (t k : ℕ) (x : Entry) → t ≡ s → k ≡ n → x ≡ f → x.object ≡ identity t k → is_beginning x.stage ≡ true
      → IsFresh v t k x
  fresh_here t k x ts kn xf o r =
      let begins : is_beginning f.stage ≡ true = ap (λ (y : Entry). is_beginning y.stage) (sym xf) ∙ r in
      let a = c.beginning begins in
      let fresh = b.sound.S8 s n e c.move.found (own_number t k x ts kn xf o) a.1 in
      let same : x.object ≡ e.object = ap (λ (y : Entry). y.object) xf ∙ c.object in
      record {
        unmarked = λ m q. false_from_ne_true (v.names.markers m) (λ y.
            elim (c.marker_put m y) [
              | inl u ↦ both_ways (w.names.markers m) (fresh.unmarked m (q ∙ same)) u
              | inr u ↦ both_ways (is_beginning f.stage) u.2 begins
            ]);
        alone = λ t2 k2 x2 p2 o2. elim (c.move.back t2 k2 x2 p2) [
          | inl u ↦ (u.0 ∙ sym ts, u.1 ∙ sym kn)
          | inr u ↦ let z = fresh.alone t2 k2 x2 u.1 (o2 ∙ same) in absurd (u.0 z.0 z.1)
        ];
        unlent = λ m q y. fresh.unlent m (offered_back m q) (y ∙ same);
        present = ap v.names.objects same ∙ (a.2 ∙ sym (ap (λ (y : Entry). is_put y.stage) xf ∙ ap is_put a.0));
      }

  fresh_there : (t k : ℕ) (x : Entry) → (t ≡ s → k ≡ n → ⊥) → IsFresh w t k x → IsFresh v t k x
  fresh_there t k x apart fresh =
      let other : e.object ≡ x.object → ⊥ = λ y. let z = fresh.alone s n e c.move.found y in apart (sym z.0) (sym z.1) in
      record {
        unmarked = λ m q. false_from_ne_true (v.names.markers m) (λ y.
            elim (c.marker_put m y) [
              | inl u ↦ both_ways (w.names.markers m) (fresh.unmarked m q) u
              | inr u ↦ other (sym (ap (λ (a : Marker). a.object) u.0) ∙ q)
            ]);
        alone = λ t2 k2 x2 p2 o2. elim (c.move.back t2 k2 x2 p2) [
          | inl u ↦ absurd (other (sym c.object ∙ (ap (λ (a : Entry). a.object) (sym u.2) ∙ o2)))
          | inr u ↦ fresh.alone t2 k2 x2 u.1 o2
        ];
        unlent = λ m q y. fresh.unlent m (offered_back m q) y;
        present =
            same_tests (v.names.objects x.object) (w.names.objects x.object)
            (λ y. elim (c.object_put x.object y) [ inl u ↦ u | inr u ↦ absurd (other (sym u)) ])
            (λ y. elim (c.object_kept x.object y) [ inl u ↦ u | inr u ↦ absurd (other (sym u.0)) ])
            ∙ fresh.present;
      }

  moved_S8 : BeginningsAreFresh v
  moved_S8 t k x p o r =
      elim (c.move.back t k x p) [
        | inl z ↦ fresh_here t k x z.0 z.1 z.2 o r
        | inr z ↦ fresh_there t k x z.0 (b.sound.S8 t k x z.1 o r)
      ]

  moved_makes_own : IntendedMakeTheirOwn v
  moved_makes_own t k x p q r =
      elim (c.move.back t k x p) [
        | inl z ↦
            let intended : f.stage ≡ Intended = ap (λ (y : Entry). y.stage) (sym z.2) ∙ q in
            let clash : Put ≡ Intended = sym (c.beginning (ap is_beginning intended)).0 ∙ intended in
            absurd (cc)
        | inr z ↦ b.makes_own t k x z.1 q r
      ]

  moved_put_own : PutAreTheirOwn v
  moved_put_own t k x p q =
      elim (c.move.back t k x p) [
        | inl z ↦
            let a = c.put_own (ap (λ (y : Entry). y.stage) (sym z.2) ∙ q) in
            record {
              object = ap (λ (y : Entry). y.object) z.2
                  ∙ (c.object ∙ (a.0 ∙ (λ i. record { creator = sym z.0 i; number = sym z.1 i })));
              no_lender = ap (λ (y : Entry). y.lender) z.2 ∙ a.1;
            }
        | inr z ↦ b.put_own t k x z.1 q
      ]

  moved_same_object : LendersAreOfTheObject v
  moved_same_object t k x m p q =
      elim (c.move.back t k x p) [
        | inl z ↦ b.same_object s n e m c.move.found (c.lender m (ap (λ (y : Entry). y.lender) (sym z.2) ∙ q))
            ∙ (sym c.object ∙ ap (λ (y : Entry). y.object) (sym z.2))
        | inr z ↦ b.same_object t k x m z.1 q
      ]

  moved_past : HandlesAreOfThePast v
  moved_past h g p =
      subst (λ x. g.opening ≤ x) (sym (c.move.opening g.store))
      (b.past h g (ap (λ x. slice_get x h) (sym c.move.lendings) ∙ p))

  pub moved_steady : IsSteady v
  moved_steady =
      record {
        sound = record {
          S1 = moved_S1;
          S2 = moved_S2;
          S3 = moved_S3;
          S4 = moved_S4;
          S5 = moved_S5;
          S6 = moved_S6;
          S7_entries = moved_S7;
          S7_objects = S7_objects_from v moved_S6 moved_S7;
          S7_markers = S7_markers_from v moved_S5 moved_S7;
          S8 = moved_S8;
        };
        makes_own = moved_makes_own;
        put_own = moved_put_own;
        same_object = moved_same_object;
        past = moved_past;
      }
