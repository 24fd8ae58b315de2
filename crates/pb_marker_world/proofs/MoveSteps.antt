-- The six steps by which one entry goes on keep a steady world steady.
use Rattle.std.proofs.Common.{◌≡◌, ℕ, true, false, ◌⊎◌, inl, inr, Option, Some, None, refl, sym, ap, ◌∙◌, subst}
use Rattle.std.specs.Prelude.{not, if◌then◌else◌}
use Rattle.std.specs.List.{list_any}
use Rattle.std.proofs.lemmas.Bool.{both_ways, false_from_ne_true, false≢true, or_cases, or_left, or_right, and_parts, and_from, not_from_true, not_from_false, cases_Bool, eq-eqb, cond-true, cond-false}
use Rattle.pb_marker_world.specs.declared.stages.Stage.{Stage}
use Rattle.pb_marker_world.specs.declared.stages.Stage.TheVariants.{Intended, Put, Marked, Held, Loose, Bare, Counted, Ended}
use Rattle.pb_marker_world.specs.Machine.{Marker, Entry, Names, World, local_of, with_local, entry_at, own_marker, same_identity, same_marker, with_object, without_object, with_marker, without_marker}
use Rattle.pb_marker_world.specs.Steps.{IsMarked, at_stage, settled, moved, protects, lender_stands}
use Rattle.pb_marker_world.specs.Sound.{shows_marker, may_show_marker, is_on_its_way, is_beginning, is_put, answers_for_object, IsDoomed, IsSteady}
use Rattle.pb_marker_world.proofs.Tests.{identity_is, identity_self, marker_is, marker_self, list_any_at, answers_if_shown, same_entry}
use Rattle.pb_marker_world.proofs.Moves.{move_of, moved_steady}

-- the world after the entry has gone on
abbrev pub gone_on : World → ℕ → ℕ → Entry → Names → World
gone_on w s n f names = with_local w s (moved (local_of w s) n f names)

-- a marker that may not be shown at this stage isn't there
not_shown : (w : World) (s n : ℕ) (e : Entry) → IsSteady w → entry_at w s n ≡ Some e → may_show_marker e.stage ≡ false
    → w.names.markers (own_marker s n e) ≡ true → ⊥
not_shown w s n e b p q r =
    let u = b.sound.S5 (own_marker s n e) r in
    both_ways (may_show_marker e.stage) q
    (ap (λ (x : Entry). may_show_marker x.stage) (sym (same_entry w s n s n u.entry e u.stands refl refl p)) ∙ u.shows)

module _ (w : World) (s n : ℕ) (e : Entry) (b : IsSteady w) (p : entry_at w s n ≡ Some e) where
  pub put_object_steady : e.stage ≡ Intended → e.lender ≡ None
      → IsSteady (gone_on w s n (at_stage e Put) (with_object w.names e.object))
  put_object_steady st ln =
      let f = at_stage e Put in
      let v = gone_on w s n f (with_object w.names e.object) in
      moved_steady w v s n e f
      (record {
        move = move_of w s n e f (with_object w.names e.object) p;
        object = refl;
        lender = λ m q. q;
        marker_put = λ m q. inl q;
        marker_kept = λ m q. inl q;
        marker_own = λ q. absurd (not_shown w s n e b p (ap may_show_marker st) q);
        marker_shown = λ q. absurd (false≢true q);
        object_put = λ o q. elim (or_cases _ _ q) [ inl y ↦ inr (identity_is o e.object y) | inr y ↦ inl y ];
        object_kept = λ o q. inl (or_right _ _ q);
        object_answered = λ q. inl refl;
        held = λ q. absurd (cc);
        counted = λ q. absurd (cc);
        on_its_way = λ q. ap is_on_its_way st;
        unprotected = λ q. absurd (cc);
        beginning = λ q. (refl, ap is_beginning st, or_left _ _ (identity_self e.object e.object refl));
        put_own = λ q. (b.makes_own s n e p st ln, ln);
      })
      b

  pub put_marker_steady : e.stage ≡ Put → IsSteady (gone_on w s n (at_stage e Held) (with_marker w.names (own_marker s n e)))
  put_marker_steady st =
      let f = at_stage e Held in
      let names = with_marker w.names (own_marker s n e) in
      let v = gone_on w s n f names in
      let fresh = b.sound.S8 s n e p (b.put_own s n e p st).object (ap is_beginning st) in
      moved_steady w v s n e f
      (record {
        move = move_of w s n e f names p;
        object = refl;
        lender = λ m q. q;
        marker_put = λ m q. elim (or_cases _ _ q) [
          | inl y ↦ inr (marker_is m (own_marker s n e) y, ap is_on_its_way st, refl)
          | inr y ↦ inl y
        ];
        marker_kept = λ m q. inl (or_right _ _ q);
        marker_own = λ q. refl;
        marker_shown = λ q. or_left _ _ (marker_self (own_marker s n e) (own_marker s n e) refl);
        object_put = λ o q. inl q;
        object_kept = λ o q. inl q;
        object_answered = λ q. inl refl;
        held = λ q. (
          fresh.present ∙ ap is_put st,
          λ d.
              let z = fresh.alone d.store d.number d.entry d.stands d.same in
              let same : d.entry ≡ e = same_entry w d.store d.number s n d.entry e d.stands z.0 z.1 p in
              let clash : Counted ≡ Put = sym d.counted ∙ (ap (λ (x : Entry). x.stage) same ∙ st) in
              absurd (cc),
        );
        counted = λ q. absurd (cc);
        on_its_way = λ q. absurd (false≢true q);
        unprotected = λ q. inl refl;
        beginning = λ q. absurd (false≢true q);
        put_own = λ q. absurd (cc);
      })
      b

  pub put_own_marker_steady : e.stage ≡ Intended
      → IsSteady (gone_on w s n (at_stage e Marked) (with_marker w.names (own_marker s n e)))
  put_own_marker_steady st =
      let f = at_stage e Marked in
      let names = with_marker w.names (own_marker s n e) in
      let v = gone_on w s n f names in
      moved_steady w v s n e f
      (record {
        move = move_of w s n e f names p;
        object = refl;
        lender = λ m q. q;
        marker_put = λ m q. elim (or_cases _ _ q) [
          | inl y ↦ inr (marker_is m (own_marker s n e) y, ap is_on_its_way st, refl)
          | inr y ↦ inl y
        ];
        marker_kept = λ m q. inl (or_right _ _ q);
        marker_own = λ q. refl;
        marker_shown = λ q. or_left _ _ (marker_self (own_marker s n e) (own_marker s n e) refl);
        object_put = λ o q. inl q;
        object_kept = λ o q. inl q;
        object_answered = λ q. inl refl;
        held = λ q. absurd (cc);
        counted = λ q. absurd (cc);
        on_its_way = λ q. ap is_on_its_way st;
        unprotected = λ q. absurd (cc);
        beginning = λ q. absurd (false≢true q);
        put_own = λ q. absurd (cc);
      })
      b

  -- the lender's marker was found
  record IsFoundThere (next : Stage) : Type 0 where
    now : next ≡ Held
    marker : Marker
    lent : e.lender ≡ Some marker
    present : w.names.markers marker ≡ true

  -- or the entry is loose
  abbrev Settles : Stage → Type 0
  Settles next = IsFoundThere next ⊎ (next ≡ Loose)

  settled_steady : (next : Stage) → Settles next → e.stage ≡ Marked → IsSteady (gone_on w s n (settled e next) w.names)
  settled_steady next how st =
      let f = settled e next in
      let v = gone_on w s n f w.names in
      let own = b.sound.S1 s n e p (ap shows_marker st) in
      moved_steady w v s n e f
      (record {
        move = move_of w s n e f w.names p;
        object = refl;
        lender = λ m q. absurd (cc);
        marker_put = λ m q. inl q;
        marker_kept = λ m q. inl q;
        marker_own = λ q. elim how [ inl a ↦ ap may_show_marker a.now | inr a ↦ ap may_show_marker a ];
        marker_shown = λ q. own;
        object_put = λ o q. inl q;
        object_kept = λ o q. inl q;
        object_answered = λ q. inl (elim how [ inl a ↦ ap answers_for_object a.now | inr a ↦ ap answers_for_object a ]);
        held = λ q. elim how [
          | inl a ↦
              let safely = b.sound.S3 a.marker (inr (record { store = s; number = n; entry = e; stands = p; lent = a.lent })) in
              let same : a.marker.object ≡ e.object = b.same_object s n e a.marker p a.lent in (
                ap w.names.objects (sym same) ∙ safely.stands a.present,
                λ d. safely.safe a.present (subst (λ x. IsDoomed w x) (sym same) d),
              )
          | inr a ↦ let clash : Held ≡ Loose = sym q ∙ a in absurd (cc)
        ];
        counted = λ q. elim how [
          | inl a ↦ let clash : Held ≡ Counted = sym a.now ∙ q in absurd (cc)
          | inr a ↦ let clash : Loose ≡ Counted = sym a ∙ q in absurd (cc)
        ];
        on_its_way = λ q. ap is_on_its_way st;
        unprotected = λ q. absurd (cc);
        beginning = λ q. absurd (elim how [
          | inl a ↦ both_ways (is_beginning next) (ap is_beginning a.now) q
          | inr a ↦ both_ways (is_beginning next) (ap is_beginning a) q
        ]);
        put_own = λ q. elim how [
          | inl a ↦ let clash : Held ≡ Put = sym a.now ∙ q in absurd (cc)
          | inr a ↦ let clash : Loose ≡ Put = sym a ∙ q in absurd (cc)
        ];
      })
      b

  settles : (o : Option Marker) → e.lender ≡ o → Settles (if lender_stands w.names o then Held else Loose)
  settles None q = inr refl
  settles (Some m) q =
      elim (cases_Bool (w.names.markers m)) [
        | inl y ↦ inl (record { now = cond-true (w.names.markers m) Held Loose y; marker = m; lent = q; present = y })
        | inr y ↦ inr (cond-false (w.names.markers m) Held Loose y)
      ]

  pub check_steady : e.stage ≡ Marked
      → IsSteady (gone_on w s n (settled e (if lender_stands w.names e.lender then Held else Loose)) w.names)
  check_steady st =
      settled_steady (if lender_stands w.names e.lender then Held else Loose) (settles e.lender refl) st

  pub delete_marker_steady : (list_any (protects s (w.parts s).opening (own_marker s n e)) w.lendings ≡ false)
      → IsSteady (gone_on w s n (at_stage e Bare) (without_marker w.names (own_marker s n e)))
  delete_marker_steady free =
      let f = at_stage e Bare in
      let own = own_marker s n e in
      let names = without_marker w.names own in
      let v = gone_on w s n f names in
      moved_steady w v s n e f
      (record {
        move = move_of w s n e f names p;
        object = refl;
        lender = λ m q. q;
        marker_put = λ m q. inl (and_parts _ _ q).1;
        marker_kept = λ m q. elim (cases_Bool (same_marker m own)) [
          | inl y ↦ inr (marker_is m own y)
          | inr y ↦ inl (and_from _ _ (not_from_false _ y) q)
        ];
        marker_own = λ q. absurd (both_ways (not (same_marker own own))
            (not_from_true _ (marker_self own own refl)) (and_parts _ _ q).0);
        marker_shown = λ q. absurd (false≢true q);
        object_put = λ o q. inl q;
        object_kept = λ o q. inl q;
        object_answered = λ q. inl refl;
        held = λ q. absurd (cc);
        counted = λ q. absurd (cc);
        on_its_way = λ q. absurd (false≢true q);
        unprotected = λ q. inr (λ h g k given o here now r.
            both_ways (list_any (protects s (w.parts s).opening own) w.lendings) free
            (list_any_at (protects s (w.parts s).opening own) w.lendings h g given
            (and_from _ _ o (and_from _ _ (eq-eqb g.store s here) (and_from _ _ (eq-eqb g.opening (w.parts s).opening now)
            (list_any_at (λ x. same_marker x own) g.markers k own r (marker_self own own refl)))))));
        beginning = λ q. absurd (false≢true q);
        put_own = λ q. absurd (cc);
      })
      b

  pub count_none_steady : e.stage ≡ Bare → (IsMarked w.names e.object → ⊥) → IsSteady (gone_on w s n (at_stage e Counted) w.names)
  count_none_steady st none =
      let f = at_stage e Counted in
      let v = gone_on w s n f w.names in
      moved_steady w v s n e f
      (record {
        move = move_of w s n e f w.names p;
        object = refl;
        lender = λ m q. q;
        marker_put = λ m q. inl q;
        marker_kept = λ m q. inl q;
        marker_own = λ q. absurd (not_shown w s n e b p (ap may_show_marker st) q);
        marker_shown = λ q. absurd (false≢true q);
        object_put = λ o q. inl q;
        object_kept = λ o q. inl q;
        object_answered = λ q. inl refl;
        held = λ q. absurd (cc);
        counted = λ q m r. false_from_ne_true (w.names.markers m) (λ y. none (record { marker = m; same = r; present = y }));
        on_its_way = λ q. absurd (false≢true q);
        unprotected = λ q. absurd (cc);
        beginning = λ q. absurd (false≢true q);
        put_own = λ q. absurd (cc);
      })
      b

  pub count_some_steady : e.stage ≡ Bare → IsMarked w.names e.object → IsSteady (gone_on w s n (at_stage e Ended) w.names)
  count_some_steady st marked =
      let f = at_stage e Ended in
      let v = gone_on w s n f w.names in
      let move = move_of w s n e f w.names p in
      let u = b.sound.S5 marked.marker marked.present in
      moved_steady w v s n e f
      (record {
        move = move;
        object = refl;
        lender = λ m q. q;
        marker_put = λ m q. inl q;
        marker_kept = λ m q. inl q;
        marker_own = λ q. absurd (not_shown w s n e b p (ap may_show_marker st) q);
        marker_shown = λ q. absurd (false≢true q);
        object_put = λ o q. inl q;
        object_kept = λ o q. inl q;
        object_answered = λ q. inr (elim (move.forth marked.marker.store marked.marker.number u.entry u.stands) [
          | inl z ↦ absurd (both_ways (may_show_marker e.stage) (ap may_show_marker st)
              (ap (λ (x : Entry). may_show_marker x.stage) (sym z.2) ∙ u.shows))
          | inr z ↦ record {
            store = marked.marker.store;
            number = marked.marker.number;
            entry = u.entry;
            stands = z.1;
            same = u.same ∙ marked.same;
            answers = answers_if_shown u.entry.stage u.shows;
          }
        ]);
        held = λ q. absurd (cc);
        counted = λ q. absurd (cc);
        on_its_way = λ q. absurd (false≢true q);
        unprotected = λ q. absurd (cc);
        beginning = λ q. absurd (false≢true q);
        put_own = λ q. absurd (cc);
      })
      b

  pub delete_object_steady : e.stage ≡ Counted → IsSteady (gone_on w s n (at_stage e Ended) (without_object w.names e.object))
  delete_object_steady st =
      let f = at_stage e Ended in
      let names = without_object w.names e.object in
      let v = gone_on w s n f names in
      moved_steady w v s n e f
      (record {
        move = move_of w s n e f names p;
        object = refl;
        lender = λ m q. q;
        marker_put = λ m q. inl q;
        marker_kept = λ m q. inl q;
        marker_own = λ q. absurd (not_shown w s n e b p (ap may_show_marker st) q);
        marker_shown = λ q. absurd (false≢true q);
        object_put = λ o q. inl (and_parts _ _ q).1;
        object_kept = λ o q. elim (cases_Bool (same_identity o e.object)) [
          | inl y ↦ inr (identity_is o e.object y, st)
          | inr y ↦ inl (and_from _ _ (not_from_false _ y) q)
        ];
        object_answered = λ q. absurd (both_ways (not (same_identity e.object e.object))
            (not_from_true _ (identity_self e.object e.object refl)) (and_parts _ _ q).0);
        held = λ q. absurd (cc);
        counted = λ q. absurd (cc);
        on_its_way = λ q. absurd (false≢true q);
        unprotected = λ q. absurd (cc);
        beginning = λ q. absurd (false≢true q);
        put_own = λ q. absurd (cc);
      })
      b
