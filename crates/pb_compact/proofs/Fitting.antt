-- What fits a version fits each to which tables are added above.
use Rattle.std.proofs.Common.{◌≡◌, ℕ, ◌+◌, ◌<◌, ◌≤◌, false, ap, sym, subst, arith, inl, inr}
use Rattle.std.specs.Prelude.{◌⊎◌, All, Contains}
use Rattle.pb_keys.specs.Span.{overlap}
use Rattle.pb_version.specs.Version.{TableView, VersionView, tables_of_level}
use Rattle.pb_version.specs.Above.{ReplacesOne, IsNewest, IsClear, MayStand, AddsAbove}
use Rattle.pb_compact.specs.Chosen.{Chosen, AreInTurn, Fits, IsInput, IsBesideAll, IsNewerThanAll, StandIn, at_level}
use Rattle.pb_compact.proofs.Members.{In, in_list, every, for_each, of_append, of_map}
use Rattle.pb_compact.proofs.Overlaps.{within_says, inner_clear}

module _ (chosen : Chosen) (turn : AreInTurn chosen) where
  -- inputs are of the level or of the next
  pub input_level : (input : ℕ × TableView) → In chosen.inputs input → (input.0 ≡ chosen.level) ⊎ (input.0 ≡ chosen.level + 1)
  input_level input has =
      elim (of_append (at_level chosen.level turn.firsts) (at_level (chosen.level + 1) turn.seconds) input
      (subst (λ is. In is input) turn.inputs has)) [
        | inl first ↦
            let it = of_map (λ (t : TableView). (chosen.level, t)) turn.firsts input first in
            inl (sym (ap (λ (i : ℕ × TableView). i.0) it.image))
        | inr second ↦
            let it = of_map (λ (t : TableView). (chosen.level + 1, t)) turn.seconds input second in
            inr (sym (ap (λ (i : ℕ × TableView). i.0) it.image))
      ]

module _ (old new : VersionView) (chosen : Chosen) (fits : Fits old chosen) (adds : AddsAbove old new) (stand : StandIn new chosen) where
  -- a table that has gone was no input
  was_none : (level : ℕ) (t : TableView) → ¬ (Contains (tables_of_level new level) t) → ¬ (IsInput chosen level t)
  was_none level t gone input = gone (every (λ (i : ℕ × TableView). Contains (tables_of_level new i.0) i.1) chosen.inputs (level, t) stand
      (in_list chosen.inputs (level, t) input))

  may : (level : ℕ) (t : TableView) → In (tables_of_level new level) t → MayStand old new level t
  may level t has = every (MayStand old new level) (tables_of_level new level) t (adds.each level) has

  -- ---- deeper than the level, where deletions aren't kept

  module _ (dropped : chosen.keeps_deletions ≡ false) (level : ℕ) (deeper : chosen.level < level) where
    abbrev Clear : TableView → Type 0
    Clear t = IsInput chosen level t ⊎ IsBesideAll chosen t

    was_clear : (t : TableView) → Contains (tables_of_level old level) t → Clear t
    was_clear t stood = every Clear (tables_of_level old level) t (fits.clear dropped level deeper)
        (in_list (tables_of_level old level) t stood)

    part_clear : (t : TableView) → ReplacesOne old new level t → Clear t
    part_clear t replaced =
        elim (was_clear replaced.table replaced.stood) [
          | inl input ↦ absurd (was_none level replaced.table replaced.gone input)
          | inr clear ↦ inr (for_each (λ (i : ℕ × TableView). overlap t.view.bounds i.1.view.bounds ≡ false) chosen.inputs (λ i has.
              inner_clear t.view.bounds replaced.table.view.bounds i.1.view.bounds
              (within_says t.view.bounds replaced.table.view.bounds replaced.part.within)
              (every (λ (j : ℕ × TableView). overlap replaced.table.view.bounds j.1.view.bounds ≡ false) chosen.inputs i clear has)))
        ]

    upto_level : (input : ℕ × TableView) → In chosen.inputs input → input.0 ≤ level
    upto_level input has =
        elim (input_level chosen fits.in_turn input has) [
          | inl same ↦ omega (arith, same, deeper)
          | inr next ↦ omega (arith, next, deeper)
        ]

    clear_of_inputs : (t : TableView) → IsClear old new level t → Clear t
    clear_of_inputs t clear = inr (for_each (λ (i : ℕ × TableView). overlap t.view.bounds i.1.view.bounds ≡ false) chosen.inputs (λ i has.
        every (λ (u : TableView). Contains (tables_of_level new i.0) u → overlap t.view.bounds u.view.bounds ≡ false)
        (tables_of_level old i.0) i.1
        (clear.clear i.0 (upto_level i has))
        (in_list (tables_of_level old i.0) i.1 (every
        (λ (j : ℕ × TableView). Contains (tables_of_level old j.0) j.1) chosen.inputs i fits.stand has))
        (every (λ (j : ℕ × TableView). Contains (tables_of_level new j.0) j.1) chosen.inputs i stand has)))

    still_clear : All Clear (tables_of_level new level)
    still_clear = for_each Clear (tables_of_level new level) (λ t has.
        elim (may level t has) [
          | inl stood ↦ was_clear t stood
          | inr rest ↦ elim rest [
            | inl replaced ↦ part_clear t replaced
            | inr other ↦ elim other [
              | inl newest ↦ absurd (omega (arith, newest.first, deeper))
              | inr clear ↦ clear_of_inputs t clear
            ]
          ]
        ])

  -- ---- on level 0

  module _ (first : chosen.level ≡ 0) where
    abbrev Newer : TableView → Type 0
    Newer t = IsInput chosen 0 t ⊎ IsNewerThanAll chosen t

    was_newer : (t : TableView) → Contains (tables_of_level old 0) t → Newer t
    was_newer t stood = every Newer (tables_of_level old 0) t (fits.newest first) (in_list (tables_of_level old 0) t stood)

    part_newer : (t : TableView) → ReplacesOne old new 0 t → Newer t
    part_newer t replaced =
        elim (was_newer replaced.table replaced.stood) [
          | inl input ↦ absurd (was_none 0 replaced.table replaced.gone input)
          | inr newer ↦ inr (subst (λ (r : ℕ). All (λ (i : ℕ × TableView). i.0 ≡ 0 → i.1.rank < r) chosen.inputs)
              (sym replaced.part.rank) newer)
        ]

    newest_of_all : (t : TableView) → IsNewest old 0 t → Newer t
    newest_of_all t newest = inr (for_each (λ (i : ℕ × TableView). i.0 ≡ 0 → i.1.rank < t.rank) chosen.inputs (λ i has on_first.
        every (λ (u : TableView). u.rank < t.rank) (tables_of_level old 0) i.1 newest.newest
        (in_list (tables_of_level old 0) i.1 (subst (λ (l : ℕ). Contains (tables_of_level old l) i.1) on_first
        (every (λ (j : ℕ × TableView). Contains (tables_of_level old j.0) j.1) chosen.inputs i fits.stand has)))))

    still_newest : All Newer (tables_of_level new 0)
    still_newest = for_each Newer (tables_of_level new 0) (λ t has.
        elim (may 0 t has) [
          | inl stood ↦ was_newer t stood
          | inr rest ↦ elim rest [
            | inl replaced ↦ part_newer t replaced
            | inr other ↦ elim other [
              | inl newest ↦ newest_of_all t newest
              | inr clear ↦ absurd (omega (arith, clear.deeper))
            ]
          ]
        ])

  pub still_fits : Fits new chosen
  still_fits = record { in_turn = fits.in_turn; stand = stand; clear = still_clear; newest = still_newest }
