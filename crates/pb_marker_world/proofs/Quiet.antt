-- Nothing goes on but that numbers are used up and handles are given, dropped or forgotten: a steady world stays so.
use Rattle.std.proofs.Common.{◌≡◌, ℕ, true, ◌⊎◌, inl, inr, Some, refl, sym, ap, ◌∙◌, subst, arith}
use Rattle.std.specs.Prelude.{slice_get}
use Rattle.std.proofs.lemmas.Bool.{both_ways}
use Rattle.pb_names.specs.Identity.{Identity}
use Rattle.pb_marker_world.specs.declared.stages.Stage.TheVariants.{Held}
use Rattle.pb_marker_world.specs.Machine.{Marker, Entry, Lending, World, entry_at, own_marker}
use Rattle.pb_marker_world.specs.Steps.{IsOffered}
use Rattle.pb_marker_world.specs.Sound.{is_on_its_way, is_beginning, IsDoomed, IsLent, IsLentSafely, HoldsUnder, IsSteady, LentMarkersAreSafe, OpenHandlesLendHeld, MarkersAreAccounted, ObjectsAreAnswered, EntriesUseNumbers, BeginningsAreFresh, HandlesAreOfThePast}
use Rattle.pb_marker_world.proofs.Tests.{same_entry}
use Rattle.pb_marker_world.proofs.Moves.{S7_objects_from, S7_markers_from}

-- an old handle lends the same, and is open if this one is
pub record IsCovered (w : World) (g : Lending) : Type 0 where
  pub handle : ℕ
  pub old : Lending
  pub there : slice_get w.lendings handle ≡ Some old
  pub store : g.store ≡ old.store
  pub opening : g.opening ≡ old.opening
  pub markers : g.markers ≡ old.markers
  pub is_open : g.is_open ≡ true → old.is_open ≡ true

-- the handle is of its store's present opening, and lends what the store holds
pub record LendsHeld (w : World) (g : Lending) : Type 0 where
  pub opening : g.opening ≡ (w.parts g.store).opening
  pub each : (k : ℕ) (m : Marker) → slice_get g.markers k ≡ Some m → HoldsUnder w g.store m

-- the store holds what has this marker
pub record IsHeldBySome (w : World) (m : Marker) : Type 0 where
  pub store : ℕ
  pub holds : HoldsUnder w store m

pub record Quiet (w v : World) : Type 0 where
  pub entries : (t k : ℕ) → entry_at v t k ≡ entry_at w t k
  pub objects : (o : Identity) → v.names.objects o ≡ w.names.objects o
  pub markers : (m : Marker) → v.names.markers m ≡ w.names.markers m
  pub used : (t k : ℕ) → (w.parts t).used k ≡ true → (v.parts t).used k ≡ true
  pub opening : (t : ℕ) → (v.parts t).opening ≡ (w.parts t).opening
  pub handles : (h : ℕ) (g : Lending) → slice_get v.lendings h ≡ Some g → IsCovered w g ⊎ LendsHeld w g

module _ (w v : World) (c : Quiet w v) (b : IsSteady w) where
  back : (t k : ℕ) (x : Entry) → entry_at v t k ≡ Some x → entry_at w t k ≡ Some x
  back t k x p = sym (c.entries t k) ∙ p

  forth : (t k : ℕ) (x : Entry) → entry_at w t k ≡ Some x → entry_at v t k ≡ Some x
  forth t k x p = c.entries t k ∙ p

  holds : (s : ℕ) (m : Marker) → HoldsUnder w s m → HoldsUnder v s m
  holds s m u = record { entry = u.entry; stands = forth s m.number u.entry u.stands; held = u.held; own = u.own }

  offered_back : (m : Marker) → IsOffered v.lendings m → IsOffered w.lendings m ⊎ IsHeldBySome w m
  offered_back m d =
      elim (c.handles d.handle d.given d.there) [
        | inl a ↦ inl (record {
          handle = a.handle;
          given = a.old;
          place = d.place;
          there = a.there;
          lends = ap (λ x. slice_get x d.place) (sym a.markers) ∙ d.lends;
        })
        | inr a ↦ inr (record { store = d.given.store; holds = a.each d.place m d.lends })
      ]

  doomed_back : (o : Identity) → IsDoomed v o → IsDoomed w o
  doomed_back o d =
      record {
        store = d.store;
        number = d.number;
        entry = d.entry;
        stands = back d.store d.number d.entry d.stands;
        same = d.same;
        counted = d.counted;
      }

  own_safely : (s n : ℕ) (e : Entry) → entry_at w s n ≡ Some e → e.stage ≡ Held → IsLentSafely w (own_marker s n e)
  own_safely s n e p q =
      let u = b.sound.S7_entries s n e p in
      let held = b.sound.S2 s n e p q in
      record {
        number = u.own;
        object_number = u.object;
        arrived = λ x a _. ap (λ (y : Entry). is_on_its_way y.stage) (same_entry w s n s n x e a refl refl p) ∙ ap is_on_its_way q;
        stands = λ _. held.present;
        safe = λ _. held.spared;
      }

  held_safely : (s : ℕ) (m : Marker) → HoldsUnder w s m → IsLentSafely w m
  held_safely s m u = subst (λ x. IsLentSafely w x) (sym u.own) (own_safely s m.number u.entry u.stands u.held)

  lent_back : (m : Marker) → IsLent v m → IsLentSafely w m
  lent_back m l =
      elim l [
        | inl d ↦ elim (offered_back m d) [ inl a ↦ b.sound.S3 m (inl a) | inr a ↦ held_safely a.store m a.holds ]
        | inr d ↦ b.sound.S3 m (inr (record {
          store = d.store;
          number = d.number;
          entry = d.entry;
          stands = back d.store d.number d.entry d.stands;
          lent = d.lent;
        }))
      ]

  quiet_S3 : LentMarkersAreSafe v
  quiet_S3 m l =
      let g = lent_back m l in
      record {
        number = c.used m.store m.number g.number;
        object_number = c.used m.object.creator m.object.number g.object_number;
        arrived = λ x p q. g.arrived x (back m.store m.number x p) q;
        stands = λ p. c.objects m.object ∙ g.stands (sym (c.markers m) ∙ p);
        safe = λ p d. g.safe (sym (c.markers m) ∙ p) (doomed_back m.object d);
      }

  quiet_S4 : OpenHandlesLendHeld v
  quiet_S4 h g k m p o q r =
      elim (c.handles h g p) [
        | inl a ↦ holds g.store m (subst (λ x. HoldsUnder w x m) (sym a.store)
            (b.sound.S4 a.handle a.old k m a.there (a.is_open o)
            (sym a.opening ∙ (q ∙ (c.opening g.store ∙ ap (λ x. (w.parts x).opening) a.store)))
            (ap (λ x. slice_get x k) (sym a.markers) ∙ r)))
        | inr a ↦ holds g.store m (a.each k m r)
      ]

  quiet_S5 : MarkersAreAccounted v
  quiet_S5 m p =
      let u = b.sound.S5 m (sym (c.markers m) ∙ p) in
      record { entry = u.entry; stands = forth m.store m.number u.entry u.stands; same = u.same; shows = u.shows }

  quiet_S6 : ObjectsAreAnswered v
  quiet_S6 o p =
      let u = b.sound.S6 o (sym (c.objects o) ∙ p) in
      record {
        store = u.store;
        number = u.number;
        entry = u.entry;
        stands = forth u.store u.number u.entry u.stands;
        same = u.same;
        answers = u.answers;
      }

  quiet_S7 : EntriesUseNumbers v
  quiet_S7 t k x p =
      let u = b.sound.S7_entries t k x (back t k x p) in
      record { own = c.used t k u.own; object = c.used x.object.creator x.object.number u.object }

  quiet_S8 : BeginningsAreFresh v
  quiet_S8 t k x p o r =
      let fresh = b.sound.S8 t k x (back t k x p) o r in
      record {
        unmarked = λ m q. c.markers m ∙ fresh.unmarked m q;
        alone = λ t2 k2 x2 p2 o2. fresh.alone t2 k2 x2 (back t2 k2 x2 p2) o2;
        unlent = λ m d q. elim (offered_back m d) [
          | inl a ↦ fresh.unlent m a q
          | inr a ↦
              let u = a.holds in
              let z = fresh.alone a.store m.number u.entry u.stands (sym (ap (λ (y : Marker). y.object) u.own) ∙ q) in
              let same : u.entry ≡ x = same_entry w a.store m.number t k u.entry x u.stands z.0 z.1 (back t k x p) in
              both_ways (is_beginning x.stage)
              (ap (λ (y : Entry). is_beginning y.stage) (sym same) ∙ ap is_beginning u.held) r
        ];
        present = c.objects x.object ∙ fresh.present;
      }

  quiet_past : HandlesAreOfThePast v
  quiet_past h g p =
      let same = c.opening g.store in
      elim (c.handles h g p) [
        | inl a ↦
            let old = b.past a.handle a.old a.there in
            let there : (w.parts g.store).opening ≡ (w.parts a.old.store).opening = ap (λ x. (w.parts x).opening) a.store in
            let opened : g.opening ≡ a.old.opening = a.opening in
            omega arith
        | inr a ↦ let opened : g.opening ≡ (w.parts g.store).opening = a.opening in omega arith
      ]

  pub quiet_steady : IsSteady v
  quiet_steady =
      record {
        sound = record {
          S1 = λ t k x p q. c.markers (own_marker t k x) ∙ b.sound.S1 t k x (back t k x p) q;
          S2 = λ t k x p q.
              let u = b.sound.S2 t k x (back t k x p) q in
              record { present = c.objects x.object ∙ u.present; spared = λ d. u.spared (doomed_back x.object d) };
          S3 = quiet_S3;
          S4 = quiet_S4;
          S5 = quiet_S5;
          S6 = quiet_S6;
          S7_entries = quiet_S7;
          S7_objects = S7_objects_from v quiet_S6 quiet_S7;
          S7_markers = S7_markers_from v quiet_S5 quiet_S7;
          S8 = quiet_S8;
        };
        makes_own = λ t k x p. b.makes_own t k x (back t k x p);
        put_own = λ t k x p. b.put_own t k x (back t k x p);
        same_object = λ t k x m p. b.same_object t k x m (back t k x p);
        past = quiet_past;
      }
