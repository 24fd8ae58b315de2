-- Every step keeps a steady world steady, so every list of steps does.
use Rattle.std.proofs.Common.{◌≡◌, ℕ, true, ◌⊎◌, inl, inr, Option, Some, None, List, [], ◌∷◌, ◌++◌, refl, sym, ap, ◌∙◌, subst}
use Rattle.std.specs.Prelude.{slice_get, slice_set, ◌==◌}
use Rattle.std.specs.List.{list_all}
use Rattle.std.specs.Option.{option_map}
use Rattle.std.proofs.lemmas.Bool.{false≢true, or_right, cases_eq}
use Rattle.std.proofs.lemmas.Option.{same_Some}
use Rattle.pb_marker_world.specs.declared.stages.Stage.{Stage}
use Rattle.pb_marker_world.specs.declared.stages.Stage.TheVariants.{Intended, Put, Marked, Held, Loose, Bare, Counted, Ended}
use Rattle.pb_marker_world.specs.Machine.{Marker, Entry, Part, Lending, Local, World, local_of, with_local, entry_at, own_marker, empty_world}
use Rattle.pb_marker_world.specs.Steps.{Step, Happens, Goes, Reaches, Runs, is_held_stage, is_held_entry, is_held, marker_at, with_part, with_used, with_lendings, handle_over, dropped}
use Rattle.pb_marker_world.specs.Steps.Step.{Spends, Intends, PutsObject, PutsMarker, Checks, DeletesMarker, Counts, DeletesObject, Drops, Lends, DropsHandle, Crashes}
use Rattle.pb_marker_world.specs.Sound.{HoldsUnder, IsSteady}
use Rattle.pb_marker_world.proofs.Worlds.{part_here, part_there, opening_kept, used_kept}
use Rattle.pb_marker_world.proofs.Tests.{list_all_at, slice_get_push, slice_get_set, slice_get_filter_map}
use Rattle.pb_marker_world.proofs.MoveSteps.{put_object_steady, put_marker_steady, put_own_marker_steady, check_steady, delete_marker_steady, count_none_steady, count_some_steady, delete_object_steady}
use Rattle.pb_marker_world.proofs.Quiet.{IsCovered, LendsHeld, quiet_steady}
use Rattle.pb_marker_world.proofs.Intends.{intend_steady}
use Rattle.pb_marker_world.proofs.Drops.{drop_steady}
use Rattle.pb_marker_world.proofs.Crashes.{crash_steady}

pub covered_itself : (w : World) (h : ℕ) (g : Lending) → slice_get w.lendings h ≡ Some g → IsCovered w g ⊎ LendsHeld w g
covered_itself w h g p =
    inl (record { handle = h; old = g; there = p; store = refl; opening = refl; markers = refl; is_open = λ q. q })

module _ (w : World) (s : ℕ) (b : IsSteady w) where
  spend_steady : (n : ℕ) → IsSteady (with_local w s (with_part (local_of w s) (with_used (w.parts s) n)))
  spend_steady n =
      let l = with_part (local_of w s) (with_used (w.parts s) n) in
      quiet_steady w (with_local w s l)
      (record {
        entries = λ t k. elim (cases_eq t s) [
          | inl q ↦ ap (λ (p : Part). p.entries k) (part_here w s l t q) ∙ ap (λ x. entry_at w x k) (sym q)
          | inr q ↦ ap (λ (p : Part). p.entries k) (part_there w s l t q)
        ];
        objects = λ o. refl;
        markers = λ m. refl;
        used = λ t k p. elim (cases_eq t s) [
          | inl q ↦ ap (λ (x : Part). x.used k) (part_here w s l t q)
              ∙ or_right (k == n) ((w.parts s).used k) (ap (λ y. (w.parts y).used k) (sym q) ∙ p)
          | inr q ↦ ap (λ (x : Part). x.used k) (part_there w s l t q) ∙ p
        ];
        opening = opening_kept w s l refl;
        handles = covered_itself w;
      })
      b

  -- other handles, each covered by an old one or over what the store holds
  handles_steady : (lendings : List Lending)
      → ((h : ℕ) (g : Lending) → slice_get lendings h ≡ Some g → IsCovered w g ⊎ LendsHeld w g)
      → IsSteady (with_local w s (with_lendings (local_of w s) lendings))
  handles_steady lendings covered =
      let l = with_lendings (local_of w s) lendings in
      quiet_steady w (with_local w s l)
      (record {
        entries = λ t k. elim (cases_eq t s) [
          | inl q ↦ ap (λ (p : Part). p.entries k) (part_here w s l t q) ∙ ap (λ x. entry_at w x k) (sym q)
          | inr q ↦ ap (λ (p : Part). p.entries k) (part_there w s l t q)
        ];
        objects = λ o. refl;
        markers = λ m. refl;
        used = λ t k p. used_kept w s l refl t k ∙ p;
        opening = opening_kept w s l refl;
        handles = covered;
      })
      b

  held_under : (o : Option Entry) (n : ℕ) (m : Marker) → entry_at w s n ≡ o → is_held_entry o ≡ true
      → option_map (own_marker s n) o ≡ Some m → HoldsUnder w s m
  held_under None n m p q r = absurd (false≢true q)
  held_under (Some e) n m p q r =
      let same : m ≡ own_marker s n e = sym (same_Some (own_marker s n e) m r) in
      let number = ap (λ (x : Marker). x.number) same in
      record {
        entry = e;
        stands = ap (λ x. entry_at w s x) number ∙ p;
        held = held e.stage q;
        own = same ∙ (λ i. record { object = e.object; store = s; number = sym number i });
      }
    where
      held : (stage : Stage) → is_held_stage stage ≡ true → stage ≡ Held
      held Held p = refl
      held Intended p = absurd (false≢true p)
      held Put p = absurd (false≢true p)
      held Marked p = absurd (false≢true p)
      held Loose p = absurd (false≢true p)
      held Bare p = absurd (false≢true p)
      held Counted p = absurd (false≢true p)
      held Ended p = absurd (false≢true p)

  lend_steady : (numbers : List ℕ) → list_all (is_held (w.parts s)) numbers ≡ true
      → IsSteady (with_local w s (with_lendings (local_of w s) (w.lendings ++ handle_over s (w.parts s) numbers ∷ [])))
  lend_steady numbers all =
      let new = handle_over s (w.parts s) numbers in
      let lends : LendsHeld w new =
      record {
        opening = refl;
        each = λ k m p.
            let u = slice_get_filter_map (marker_at s (w.parts s)) numbers k m p in
            held_under (entry_at w s u.item) u.item m refl
            (list_all_at (is_held (w.parts s)) numbers u.at u.item all u.there) u.gives;
      } in
      handles_steady (w.lendings ++ new ∷ []) (λ h g p.
      elim (slice_get_push w.lendings new h g p) [
        | inl q ↦ covered_itself w h g q
        | inr q ↦ inr (subst (λ x. LendsHeld w x) (sym q) lends)
      ])

  drop_handle_steady : (h : ℕ) (g : Lending) → slice_get w.lendings h ≡ Some g
      → IsSteady (with_local w s (with_lendings (local_of w s) (slice_set w.lendings h (dropped g))))
  drop_handle_steady h g p =
      handles_steady (slice_set w.lendings h (dropped g)) (λ k x q.
      elim (slice_get_set w.lendings h (dropped g) k x q) [
        | inl r ↦ covered_itself w k x r
        | inr r ↦ inl (record {
          handle = h;
          old = g;
          there = p;
          store = ap (λ (y : Lending). y.store) r;
          opening = ap (λ (y : Lending). y.opening) r;
          markers = ap (λ (y : Lending). y.markers) r;
          is_open = λ y. absurd (false≢true (ap (λ (z : Lending). z.is_open) (sym r) ∙ y));
        })
      ])

  -- a step of the store keeps the world steady
  pub step_steady : (step : Step) (after : Local) → Happens s (local_of w s) step after → IsSteady (with_local w s after)
  step_steady (Spends n) after h = subst (λ l. IsSteady (with_local w s l)) (sym h.left) (spend_steady n)
  step_steady (Intends n o lender) after h =
      subst (λ l. IsSteady (with_local w s l)) (sym h.left) (intend_steady w s n o lender b h.unused h.may)
  step_steady (PutsObject n) after h =
      subst (λ l. IsSteady (with_local w s l)) (sym h.left) (put_object_steady w s n h.entry b h.at.stands h.at.come h.no_lender)
  step_steady (PutsMarker n) after h =
      elim h.how [
        | inl q ↦ subst (λ l. IsSteady (with_local w s l)) (sym q.left) (put_marker_steady w s n h.entry b q.at.stands q.at.come)
        | inr q ↦ subst (λ l. IsSteady (with_local w s l)) (sym q.left) (put_own_marker_steady w s n h.entry b q.at.stands q.at.come)
      ]
  step_steady (Checks n) after h =
      subst (λ l. IsSteady (with_local w s l)) (sym h.left) (check_steady w s n h.entry b h.at.stands h.at.come)
  step_steady (DeletesMarker n) after h =
      subst (λ l. IsSteady (with_local w s l)) (sym h.left)
      (delete_marker_steady w s n h.entry b (elim h.at [ inl q ↦ q.stands | inr q ↦ q.stands ]) h.unprotected)
  step_steady (Counts n) after h =
      elim h.how [
        | inl q ↦ subst (λ l. IsSteady (with_local w s l)) (sym q.left) (count_none_steady w s n h.entry b h.at.stands h.at.come q.none)
        | inr q ↦ subst (λ l. IsSteady (with_local w s l)) (sym q.left) (count_some_steady w s n h.entry b h.at.stands h.at.come q.some)
      ]
  step_steady (DeletesObject n) after h =
      subst (λ l. IsSteady (with_local w s l)) (sym h.left) (delete_object_steady w s n h.entry b h.at.stands h.at.come)
  step_steady (Drops n) after h =
      subst (λ l. IsSteady (with_local w s l)) (sym h.left) (drop_steady w s n h.entry b h.at.stands h.at.come)
  step_steady (Lends numbers) after h = subst (λ l. IsSteady (with_local w s l)) (sym h.left) (lend_steady numbers h.held)
  step_steady (DropsHandle k) after h =
      subst (λ l. IsSteady (with_local w s l)) (sym h.left) (drop_handle_steady k h.given h.there)
  step_steady (Crashes kept) after h =
      subst (λ l. IsSteady (with_local w s l)) (sym h.left) (crash_steady w s kept b)

pub goes_steady : (w : World) (s : ℕ) (step : Step) (v : World) → IsSteady w → Goes w s step v → IsSteady v
goes_steady w s step v b h = subst (λ x. IsSteady x) (sym h.left) (step_steady w s b step h.after h.happens)

pub runs_steady : (steps : List (ℕ × Step)) (w v : World) → IsSteady w → Runs w steps v → IsSteady v
runs_steady [] w v b h = subst (λ x. IsSteady x) (sym h) b
runs_steady (step ∷ steps) w v b h =
    runs_steady steps h.between v (goes_steady w step.0 step.1 h.between b h.first) h.rest

pub empty_steady : IsSteady empty_world
empty_steady =
    record {
      sound = record {
        S1 = λ s n e p. absurd (cc);
        S2 = λ s n e p. absurd (cc);
        S3 = λ m l. absurd (elim l [
          | inl d ↦ let given : None ≡ Some d.given = d.there in absurd (cc)
          | inr d ↦ let given : None ≡ Some d.entry = d.stands in absurd (cc)
        ]);
        S4 = λ h g k m p. absurd (cc);
        S5 = λ m p. absurd (false≢true p);
        S6 = λ o p. absurd (false≢true p);
        S7_entries = λ s n e p. absurd (cc);
        S7_objects = λ o p. absurd (false≢true p);
        S7_markers = λ m p. absurd (false≢true p);
        S8 = λ s n e p. absurd (cc);
      };
      makes_own = λ s n e p. absurd (cc);
      put_own = λ s n e p. absurd (cc);
      same_object = λ s n e m p. absurd (cc);
      past = λ h g p. absurd (cc);
    }

pub local_back : (w : World) (s : ℕ) (l : Local) → local_of (with_local w s l) s ≡ l
local_back w s l = λ i. record { part = part_here w s l s refl i; names = l.names; lendings = l.lendings }

pub goes_reads : (w x v : World) (s : ℕ) (step : Step) → local_of x s ≡ local_of w s → Goes w s step v
    → Goes x s step (with_local x s (local_of v s))
goes_reads w x v s step same h =
    record {
      after = h.after;
      happens = subst (λ l. Happens s l step h.after) (sym same) h.happens;
      left = ap (with_local x s) (ap (λ y. local_of y s) h.left ∙ local_back w s h.after);
    }

pub goes_changes : (w v : World) (s t : ℕ) (step : Step) → Goes w s step v → (t ≡ s → ⊥) → v.parts t ≡ w.parts t
goes_changes w v s t step h apart = ap (λ (y : World). y.parts t) h.left ∙ part_there w s h.after t apart

with_again : (w : World) (s : ℕ) (l m : Local) → with_local (with_local w s l) s m ≡ with_local w s m
with_again w s l m =
    let parts : (t : ℕ) → (with_local (with_local w s l) s m).parts t ≡ (with_local w s m).parts t =
    λ t. elim (cases_eq t s) [
      | inl q ↦ part_here (with_local w s l) s m t q ∙ sym (part_here w s m t q)
      | inr q ↦ part_there (with_local w s l) s m t q ∙ (part_there w s l t q ∙ sym (part_there w s m t q))
    ] in
    λ i. record { parts = λ t. parts t i; names = m.names; lendings = m.lendings }

with_same : (w : World) (s : ℕ) → with_local w s (local_of w s) ≡ w
with_same w s =
    let parts : (t : ℕ) → (with_local w s (local_of w s)).parts t ≡ w.parts t =
    λ t. elim (cases_eq t s) [
      | inl q ↦ part_here w s (local_of w s) t q ∙ ap w.parts (sym q)
      | inr q ↦ part_there w s (local_of w s) t q
    ] in
    λ i. record { parts = λ t. parts t i; names = w.names; lendings = w.lendings }

pub reaches_steady : (steps : List Step) (w : World) (s : ℕ) (after : Local) → IsSteady w → Reaches s (local_of w s) steps after
    → IsSteady (with_local w s after)
reaches_steady [] w s after b h =
    subst (λ x. IsSteady x) (sym (ap (with_local w s) h ∙ with_same w s)) b
reaches_steady (step ∷ steps) w s after b h =
    subst (λ x. IsSteady x) (with_again w s h.between after)
    (reaches_steady steps (with_local w s h.between) s after (step_steady w s b step h.between h.first)
    (subst (λ l. Reaches s l steps after) (sym (local_back w s h.between)) h.rest))

pub fewer_handles : (w : World) (lendings : List Lending) → IsSteady w
    → ((h : ℕ) (g : Lending) → slice_get lendings h ≡ Some g → (j : ℕ) × (slice_get w.lendings j ≡ Some g))
    → IsSteady (record { parts = w.parts; names = w.names; lendings = lendings })
fewer_handles w lendings b old =
    quiet_steady w (record { parts = w.parts; names = w.names; lendings = lendings })
    (record {
      entries = λ t k. refl;
      objects = λ o. refl;
      markers = λ m. refl;
      used = λ t k p. p;
      opening = λ t. refl;
      handles = λ h g p. let u = old h g p in covered_itself w u.0 g u.1;
    })
    b
