-- What was there once is never put again, whatever steps its store makes.
use Rattle.std.proofs.Common.{◌≡◌, ℕ, Bool, true, false, ◌⊎◌, inl, inr, Option, Some, None, List, [], ◌∷◌, refl, sym, ap, ◌∙◌, subst}
use Rattle.std.specs.Prelude.{◌==◌, if◌then◌else◌}
use Rattle.std.specs.List.{list_any}
use Rattle.std.specs.Option.{option_map}
use Rattle.std.proofs.lemmas.Bool.{both_ways, cases_Bool, cases_eq, cond-true, cond-false, eq-eqb, ne_eqb, eqb-true, false_from_ne_true, or_from, or_right}
use Rattle.std.proofs.lemmas.Option.{same_Some}
use Rattle.pb_names.specs.Identity.{Identity}
use Rattle.pb_marker_world.specs.declared.stages.Stage.{Stage}
use Rattle.pb_marker_world.specs.declared.stages.Stage.TheVariants.{Intended, Put, Marked, Held, Loose, Bare, Counted, Ended}
use Rattle.pb_marker_world.specs.Machine.{Marker, Entry, Part, Local, World, local_of, entry_at, identity, own_marker}
use Rattle.pb_marker_world.specs.Steps.{Step, Happens, Reaches, IsOffered, new_entry, at_stage, settled, with_entry, lender_stands}
use Rattle.pb_marker_world.specs.Steps.Step.{Spends, Intends, PutsObject, PutsMarker, Checks, DeletesMarker, Counts, DeletesObject, Drops, Lends, DropsHandle, Crashes}
use Rattle.pb_marker_world.specs.Sound.{may_show_marker, is_beginning, is_put, IsSteady}
use Rattle.pb_marker_world.specs.Calls.{puts_object, puts_marker}
use Rattle.pb_marker_world.proofs.Tests.{same_entry}

-- ---- how an entry under a used number goes on

-- never back to Intended, and to Put from Intended alone
pub record Advances (e f : Entry) : Type 0 where
  pub later : f.stage ≡ Intended → ⊥
  pub put : f.stage ≡ Put → e.stage ≡ Intended

-- the entry came of this one
pub record CameOf (l : Local) (n : ℕ) (f : Entry) : Type 0 where
  pub entry : Entry
  pub stands : l.part.entries n ≡ Some entry
  pub advances : Advances entry f

abbrev pub Before : Local → ℕ → Entry → Type 0
Before l n f = (l.part.entries n ≡ Some f) ⊎ CameOf l n f

moved_before : (l after : Local) (k n : ℕ) (e f x : Entry) → l.part.entries k ≡ Some e → Advances e f
    → after.part ≡ with_entry l.part k (Some f) → after.part.entries n ≡ Some x → Before l n x
moved_before l after k n e f x there advances left p =
    let now : (if n == k then Some f else l.part.entries n) ≡ Some x = sym (ap (λ (y : Part). y.entries n) left) ∙ p in
    elim (cases_eq n k) [
      | inl q ↦
          let same : f ≡ x = same_Some f x (sym (cond-true (n == k) (Some f) (l.part.entries n) (eq-eqb n k q)) ∙ now) in
          inr (record {
            entry = e;
            stands = ap (λ i. l.part.entries i) q ∙ there;
            advances = subst (λ y. Advances e y) same advances;
          })
      | inr q ↦ inl (sym (cond-false (n == k) (Some f) (l.part.entries n) (ne_eqb n k q)) ∙ now)
    ]

-- to a stage behind Put
behind : (e f : Entry) → is_beginning f.stage ≡ false → Advances e f
behind e f p =
    record {
      later = λ q. both_ways (is_beginning f.stage) p (ap is_beginning q);
      put = λ q. absurd (both_ways (is_beginning f.stage) p (ap is_beginning q));
    }

checked_behind : (e : Entry) (b : Bool) → Advances e (settled e (if b then Held else Loose))
checked_behind e true = behind e (settled e Held) refl
checked_behind e false = behind e (settled e Loose) refl

loosened_before : (l : Local) (n : ℕ) (x : Entry) (o : Option Entry) → l.part.entries n ≡ o
    → option_map (λ e. settled e Loose) o ≡ Some x → Before l n x
loosened_before l n x None there p = absurd (cc)
loosened_before l n x (Some e) there p =
    inr (record {
      entry = e;
      stands = there;
      advances = subst (λ y. Advances e y) (same_Some (settled e Loose) x p) (behind e (settled e Loose) refl);
    })

module _ (store : ℕ) (l : Local) (n : ℕ) (used : l.part.used n ≡ true) where
  -- what stands under the number after a step stood there before it, or came of what stood there
  pub entry_before : (step : Step) (after : Local) → Happens store l step after → (x : Entry) → after.part.entries n ≡ Some x → Before l n x
  entry_before (Spends k) after h x p = inl (sym (ap (λ (y : Local). y.part.entries n) h.left) ∙ p)
  entry_before (Intends k o lender) after h x p =
      let new = Some (new_entry o lender) in
      let now : (if n == k then new else l.part.entries n) ≡ Some x = sym (ap (λ (y : Local). y.part.entries n) h.left) ∙ p in
      elim (cases_eq n k) [
        | inl q ↦ absurd (both_ways (l.part.used n) (ap l.part.used q ∙ h.unused) used)
        | inr q ↦ inl (sym (cond-false (n == k) new (l.part.entries n) (ne_eqb n k q)) ∙ now)
      ]
  entry_before (PutsObject k) after h x p =
      moved_before l after k n h.entry (at_stage h.entry Put) x h.at.stands
      (record { later = λ q. absurd (cc); put = λ q. h.at.come }) (ap (λ (y : Local). y.part) h.left) p
  entry_before (PutsMarker k) after h x p =
      elim h.how [
        | inl q ↦ moved_before l after k n h.entry (at_stage h.entry Held) x q.at.stands
            (behind h.entry (at_stage h.entry Held) refl) (ap (λ (y : Local). y.part) q.left) p
        | inr q ↦ moved_before l after k n h.entry (at_stage h.entry Marked) x q.at.stands
            (behind h.entry (at_stage h.entry Marked) refl) (ap (λ (y : Local). y.part) q.left) p
      ]
  entry_before (Checks k) after h x p =
      moved_before l after k n h.entry _ x h.at.stands (checked_behind h.entry (lender_stands l.names h.entry.lender))
      (ap (λ (y : Local). y.part) h.left) p
  entry_before (DeletesMarker k) after h x p =
      moved_before l after k n h.entry (at_stage h.entry Bare) x (elim h.at [ inl q ↦ q.stands | inr q ↦ q.stands ])
      (behind h.entry (at_stage h.entry Bare) refl) (ap (λ (y : Local). y.part) h.left) p
  entry_before (Counts k) after h x p =
      elim h.how [
        | inl q ↦ moved_before l after k n h.entry (at_stage h.entry Counted) x h.at.stands
            (behind h.entry (at_stage h.entry Counted) refl) (ap (λ (y : Local). y.part) q.left) p
        | inr q ↦ moved_before l after k n h.entry (at_stage h.entry Ended) x h.at.stands
            (behind h.entry (at_stage h.entry Ended) refl) (ap (λ (y : Local). y.part) q.left) p
      ]
  entry_before (DeletesObject k) after h x p =
      moved_before l after k n h.entry (at_stage h.entry Ended) x h.at.stands
      (behind h.entry (at_stage h.entry Ended) refl) (ap (λ (y : Local). y.part) h.left) p
  entry_before (Drops k) after h x p =
      let now : (if n == k then None else l.part.entries n) ≡ Some x = sym (ap (λ (y : Local). y.part.entries n) h.left) ∙ p in
      elim (cases_eq n k) [
        | inl q ↦ let clash : None ≡ Some x = sym (cond-true (n == k) None (l.part.entries n) (eq-eqb n k q)) ∙ now in absurd (cc)
        | inr q ↦ inl (sym (cond-false (n == k) None (l.part.entries n) (ne_eqb n k q)) ∙ now)
      ]
  entry_before (Lends numbers) after h x p = inl (sym (ap (λ (y : Local). y.part.entries n) h.left) ∙ p)
  entry_before (DropsHandle k) after h x p = inl (sym (ap (λ (y : Local). y.part.entries n) h.left) ∙ p)
  entry_before (Crashes kept) after h x p =
      let now = sym (ap (λ (y : Local). y.part.entries n) h.left) ∙ p in
      elim (cases_Bool (list_any (λ k. k == n) kept)) [
        | inl q ↦ inl (sym (cond-true _ (l.part.entries n) (option_map (λ e. settled e Loose) (l.part.entries n)) q) ∙ now)
        | inr q ↦ loosened_before l n x (l.part.entries n) refl
            (sym (cond-false _ (l.part.entries n) (option_map (λ e. settled e Loose) (l.part.entries n)) q) ∙ now)
      ]

  -- and the number stays used
  pub used_after : (step : Step) (after : Local) → Happens store l step after → after.part.used n ≡ true
  used_after (Spends k) after h = ap (λ (y : Local). y.part.used n) h.left ∙ or_right (n == k) (l.part.used n) used
  used_after (Intends k o lender) after h = ap (λ (y : Local). y.part.used n) h.left ∙ or_right (n == k) (l.part.used n) used
  used_after (PutsObject k) after h = ap (λ (y : Local). y.part.used n) h.left ∙ used
  used_after (PutsMarker k) after h =
      elim h.how [
        | inl q ↦ ap (λ (y : Local). y.part.used n) q.left ∙ used
        | inr q ↦ ap (λ (y : Local). y.part.used n) q.left ∙ used
      ]
  used_after (Checks k) after h = ap (λ (y : Local). y.part.used n) h.left ∙ used
  used_after (DeletesMarker k) after h = ap (λ (y : Local). y.part.used n) h.left ∙ used
  used_after (Counts k) after h =
      elim h.how [
        | inl q ↦ ap (λ (y : Local). y.part.used n) q.left ∙ used
        | inr q ↦ ap (λ (y : Local). y.part.used n) q.left ∙ used
      ]
  used_after (DeletesObject k) after h = ap (λ (y : Local). y.part.used n) h.left ∙ used
  used_after (Drops k) after h = ap (λ (y : Local). y.part.used n) h.left ∙ used
  used_after (Lends numbers) after h = ap (λ (y : Local). y.part.used n) h.left ∙ used
  used_after (DropsHandle k) after h = ap (λ (y : Local). y.part.used n) h.left ∙ used
  used_after (Crashes kept) after h = ap (λ (y : Local). y.part.used n) h.left ∙ used

-- ---- lists of steps

-- the number is used, and what stands under it is so
pub record IsPast (Is : Entry → Type 0) (l : Local) (n : ℕ) : Type 0 where
  pub used : l.part.used n ≡ true
  pub each : (e : Entry) → l.part.entries n ≡ Some e → Is e

-- what an entry keeps as it goes on, and what bars a step, bars it from each list of steps
module _ (store n : ℕ) (Is : Entry → Type 0) (kept : (e f : Entry) → Advances e f → Is e → Is f) (test : Step → Bool)
    (bars : (l after : Local) (step : Step) → Happens store l step after → IsPast Is l n → test step ≡ false) where
  pub none_among : (steps : List Step) (l after : Local) → Reaches store l steps after → IsPast Is l n → list_any test steps ≡ false
  none_among [] l after h past = refl
  none_among (step ∷ steps) l after h past =
      or_from (test step) (list_any test steps) (bars l h.between step h.first past)
      (none_among steps h.between after h.rest
      (record {
        used = used_after store l n past.used step h.between h.first;
        each = λ x p. elim (entry_before store l n past.used step h.between h.first x p) [
          | inl q ↦ past.each x q
          | inr q ↦ kept q.entry x q.advances (past.each q.entry q.stands)
        ];
      }))

-- it doesn't wait for its object to be put
abbrev pub PutsNoObject : Entry → Type 0
PutsNoObject e = e.stage ≡ Intended → e.lender ≡ None → ⊥

-- nor for its marker
abbrev pub PutsNoMarker : Entry → Type 0
PutsNoMarker e = is_beginning e.stage ≡ false

puts_no_object : (e f : Entry) → Advances e f → PutsNoObject e → PutsNoObject f
puts_no_object e f a is = λ p q. a.later p

beginning_is : (stage : Stage) → is_beginning stage ≡ true → (stage ≡ Intended) ⊎ (stage ≡ Put)
beginning_is Intended p = inl refl
beginning_is Put p = inr refl
beginning_is Marked p = absurd (cc)
beginning_is Held p = absurd (cc)
beginning_is Loose p = absurd (cc)
beginning_is Bare p = absurd (cc)
beginning_is Counted p = absurd (cc)
beginning_is Ended p = absurd (cc)

puts_no_marker : (e f : Entry) → Advances e f → PutsNoMarker e → PutsNoMarker f
puts_no_marker e f a is =
    false_from_ne_true (is_beginning f.stage) (λ p.
    elim (beginning_is f.stage p) [
      | inl q ↦ a.later q
      | inr q ↦ both_ways (is_beginning e.stage) is (ap is_beginning (a.put q))
    ])

at_number : (l : Local) (k n : ℕ) (e : Entry) → k == n ≡ true → l.part.entries k ≡ Some e → l.part.entries n ≡ Some e
at_number l k n e p there = ap l.part.entries (sym (eqb-true k n p)) ∙ there

bars_object : (store n : ℕ) (l after : Local) (step : Step) → Happens store l step after → IsPast PutsNoObject l n
    → puts_object n step ≡ false
bars_object store n l after (PutsObject k) h past =
    false_from_ne_true (k == n) (λ p. past.each h.entry (at_number l k n h.entry p h.at.stands) h.at.come h.no_lender)
bars_object store n l after (Spends k) h past = refl
bars_object store n l after (Intends k o lender) h past = refl
bars_object store n l after (PutsMarker k) h past = refl
bars_object store n l after (Checks k) h past = refl
bars_object store n l after (DeletesMarker k) h past = refl
bars_object store n l after (Counts k) h past = refl
bars_object store n l after (DeletesObject k) h past = refl
bars_object store n l after (Drops k) h past = refl
bars_object store n l after (Lends numbers) h past = refl
bars_object store n l after (DropsHandle k) h past = refl
bars_object store n l after (Crashes kept) h past = refl

bars_marker : (store n : ℕ) (l after : Local) (step : Step) → Happens store l step after → IsPast PutsNoMarker l n
    → puts_marker n step ≡ false
bars_marker store n l after (PutsMarker k) h past =
    false_from_ne_true (k == n) (λ p. elim h.how [
      | inl q ↦ both_ways (is_beginning h.entry.stage)
          (past.each h.entry (at_number l k n h.entry p q.at.stands)) (ap is_beginning q.at.come)
      | inr q ↦ both_ways (is_beginning h.entry.stage)
          (past.each h.entry (at_number l k n h.entry p q.at.stands)) (ap is_beginning q.at.come)
    ])
bars_marker store n l after (Spends k) h past = refl
bars_marker store n l after (Intends k o lender) h past = refl
bars_marker store n l after (PutsObject k) h past = refl
bars_marker store n l after (Checks k) h past = refl
bars_marker store n l after (DeletesMarker k) h past = refl
bars_marker store n l after (Counts k) h past = refl
bars_marker store n l after (DeletesObject k) h past = refl
bars_marker store n l after (Drops k) h past = refl
bars_marker store n l after (Lends numbers) h past = refl
bars_marker store n l after (DropsHandle k) h past = refl
bars_marker store n l after (Crashes kept) h past = refl

-- ---- in a steady world

module _ (w : World) (b : IsSteady w) where
  pub intended_is_absent : (s n : ℕ) (e : Entry) → entry_at w s n ≡ Some e → e.stage ≡ Intended → e.lender ≡ None
      → w.names.objects e.object ≡ false
  intended_is_absent s n e p st ln =
      (b.sound.S8 s n e p (b.makes_own s n e p st ln) (ap is_beginning st)).present ∙ ap is_put st

  pub beginning_is_unmarked : (s n : ℕ) (e : Entry) → entry_at w s n ≡ Some e → is_beginning e.stage ≡ true
      → w.names.markers (own_marker s n e) ≡ false
  beginning_is_unmarked s n e p st =
      false_from_ne_true (w.names.markers (own_marker s n e)) (λ y.
      let u = b.sound.S5 (own_marker s n e) y in
      shown_later u.entry.stage u.shows
      (ap (λ (x : Entry). is_beginning x.stage) (same_entry w s n s n u.entry e u.stands refl refl p) ∙ st))
    where
      shown_later : (stage : Stage) → may_show_marker stage ≡ true → is_beginning stage ≡ true → ⊥
      shown_later Intended q r = absurd (cc)
      shown_later Put q r = absurd (cc)
      shown_later Marked q r = absurd (cc)
      shown_later Held q r = absurd (cc)
      shown_later Loose q r = absurd (cc)
      shown_later Bare q r = absurd (cc)
      shown_later Counted q r = absurd (cc)
      shown_later Ended q r = absurd (cc)

  module _ (store : ℕ) (steps : List Step) (after : Local) (reached : Reaches store (local_of w store) steps after) (n : ℕ) where
    pub object_put_once : w.names.objects (identity store n) ≡ true → list_any (puts_object n) steps ≡ false
    object_put_once present =
        none_among store n PutsNoObject puts_no_object (puts_object n) (bars_object store n) steps (local_of w store) after reached
        (record {
          used = b.sound.S7_objects (identity store n) present;
          each = λ e p st ln. both_ways (w.names.objects e.object) (intended_is_absent store n e p st ln)
              (ap w.names.objects (b.makes_own store n e p st ln) ∙ present);
        })

    pub lent_put_once : (m : Marker) → IsOffered w.lendings m → m.object ≡ identity store n → list_any (puts_object n) steps ≡ false
    lent_put_once m offered same =
        let safely = b.sound.S3 m (inl offered) in
        none_among store n PutsNoObject puts_no_object (puts_object n) (bars_object store n) steps (local_of w store) after reached
        (record {
          used = ap (λ (o : Identity). (w.parts o.creator).used o.number) (sym same) ∙ safely.object_number;
          each = λ e p st ln.
              let own = b.makes_own store n e p st ln in
              (b.sound.S8 store n e p own (ap is_beginning st)).unlent m offered (same ∙ sym own);
        })

    pub marker_put_once : (m : Marker) → m.store ≡ store → m.number ≡ n → w.names.markers m ≡ true
        → list_any (puts_marker n) steps ≡ false
    marker_put_once m at_store at_its_number present =
        let u = b.sound.S5 m present in
        let here : entry_at w store n ≡ Some u.entry = sym (λ i. entry_at w (at_store i) (at_its_number i)) ∙ u.stands in
        none_among store n PutsNoMarker puts_no_marker (puts_marker n) (bars_marker store n) steps (local_of w store) after reached
        (record {
          used = sym (λ i. (w.parts (at_store i)).used (at_its_number i)) ∙ (b.sound.S7_markers m present).0;
          each = λ e p. ap (λ (x : Entry). is_beginning x.stage) (same_Some e u.entry (sym p ∙ here)) ∙ shown_is_late u.entry.stage u.shows;
        })
      where
        shown_is_late : (stage : Stage) → may_show_marker stage ≡ true → is_beginning stage ≡ false
        shown_is_late Intended q = absurd (cc)
        shown_is_late Put q = absurd (cc)
        shown_is_late Marked q = refl
        shown_is_late Held q = refl
        shown_is_late Loose q = refl
        shown_is_late Bare q = absurd (cc)
        shown_is_late Counted q = absurd (cc)
        shown_is_late Ended q = absurd (cc)
