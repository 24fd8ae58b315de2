-- What the tables of a level say of a key, where some of them are taken out of their order, and where others are put among them.
use Rattle.std.proofs.Common.{◌≡◌, ℕ, List, [], ◌∷◌, Bool, true, false, cond, refl, ap, sym, ◌∙◌, inl, inr}
use Rattle.std.proofs.lemmas.Bool.{not-true}
use Rattle.std.proofs.lemmas.List.Elements.{All-nil, All-cons}
use Rattle.std.specs.Prelude.{◌⊎◌, not, ◌&&◌, ◌||◌, All}
use Rattle.std.specs.List.{filter, list_all}
use Rattle.std.specs.Option.{option_or}
use Rattle.pb_keys.specs.Span.{holds_key, overlap}
use Rattle.pb_rows.specs.Layer.{KeyLayer}
use Rattle.pb_rows.specs.Verdict.{Verdict, verdict}
use Rattle.pb_rows.proofs.VerdictLaws.{option_or_groups}
use Rattle.pb_version.specs.Version.{TableView}
use Rattle.pb_version.specs.Edited.{comes_before, all_placed}
use Rattle.pb_version.specs.Rules.{each_pair}
use Rattle.pb_version.specs.Meaning.{layer_of_table}
use Rattle.pb_version.specs.InTurn.{tables_say}
use Rattle.pb_version.proofs.Lists.{left, right, list_all_all_placed}
use Rattle.pb_version.proofs.OnTop.{apart_turns}
use Rattle.pb_version.proofs.InTurn.{placed_says}
use Rattle.pb_compact.proofs.Members.{In}

-- the bounds of the tables don't overlap
abbrev pub is_beside : TableView → TableView → Bool
is_beside t u = not (overlap t.view.bounds u.view.bounds)

-- where the first isn't taken and the second is, they don't overlap
abbrev pub may_part : (TableView → Bool) → TableView → TableView → Bool
may_part takes t u = (takes t || not (takes u)) || is_beside t u

pub all_beside : (t : TableView) (us : List TableView) → list_all (is_beside t) us ≡ true →
    All (λ u. overlap t.view.bounds u.view.bounds ≡ false) us
all_beside t [] e = All-nil (λ u. overlap t.view.bounds u.view.bounds ≡ false)
all_beside t (u ∷ us) e =
    All-cons (λ w. overlap t.view.bounds w.view.bounds ≡ false) u us
    (not-true (overlap t.view.bounds u.view.bounds) (left (is_beside t u) (list_all (is_beside t) us) e))
    (all_beside t us (right (is_beside t u) (list_all (is_beside t) us) e))

module _ (layers : ℕ → KeyLayer) (key : List ℕ) where
  abbrev says : TableView → Verdict
  says t = verdict (layer_of_table layers t) key

  abbrev all_say : List TableView → Verdict
  all_say ts = tables_say layers ts key

  -- tables that a table doesn't overlap may come before it
  later_turns : (t : TableView) (us : List TableView) (c : Verdict) → list_all (is_beside t) us ≡ true →
      option_or (says t) (option_or (all_say us) c) ≡ option_or (all_say us) (option_or (says t) c)
  later_turns t [] c apart = refl
  later_turns t (u ∷ us) c apart =
      ap (option_or (says t)) (option_or_groups (says u) (all_say us) c)
      ∙ sym (apart_turns layers key t u (option_or (all_say us) c) (left (is_beside t u) (list_all (is_beside t) us) apart))
      ∙ ap (option_or (says u)) (later_turns t us c (right (is_beside t u) (list_all (is_beside t) us) apart))
      ∙ sym (option_or_groups (says u) (all_say us) (option_or (says t) c))

  module _ (takes : TableView → Bool) where
    abbrev taken : List TableView → List TableView
    taken ts = filter takes ts

    abbrev others : List TableView → List TableView
    others ts = filter (λ t. not (takes t)) ts

    -- one that isn't taken is beside all that are
    beside_taken : (t : TableView) (us : List TableView) → takes t ≡ false → list_all (may_part takes t) us ≡ true →
        list_all (is_beside t) (taken us) ≡ true
    beside_taken t [] stays may = refl
    beside_taken t (u ∷ us) stays may =
        let later = beside_taken t us stays (right (may_part takes t u) (list_all (may_part takes t) us) may) in
        let here = left (may_part takes t u) (list_all (may_part takes t) us) may in
        elim (takes u) as (λ b. takes u ≡ b → list_all (is_beside t) (cond b (u ∷ taken us) (taken us)) ≡ true) [
          | true ↦ λ e i. (clear (takes t) (takes u) (is_beside t u) stays e here) i && later i
          | false ↦ λ _. later
        ] refl
      where
        clear : (a b c : Bool) → a ≡ false → b ≡ true → ((a || not b) || c) ≡ true → c ≡ true
        clear true b c e d h = cc
        clear false false c e d h = cc
        clear false true c e d h = h

    -- what is taken may come first
    pub parts_say : (ts : List TableView) → each_pair (may_part takes) ts ≡ true →
        all_say ts ≡ option_or (all_say (taken ts)) (all_say (others ts))
    parts_say [] may = refl
    parts_say (t ∷ ts) may =
        let later = parts_say ts (right (list_all (may_part takes t) ts) (each_pair (may_part takes) ts) may) in
        elim (takes t) as (λ b. takes t ≡ b → option_or (says t) (all_say ts)
        ≡ option_or (all_say (cond b (t ∷ taken ts) (taken ts))) (all_say (cond (not b) (t ∷ others ts) (others ts)))) [
          | true ↦ λ e. ap (option_or (says t)) later ∙ sym (option_or_groups (says t) (all_say (taken ts)) (all_say (others ts)))
          | false ↦ λ e. ap (option_or (says t)) later
              ∙ later_turns t (taken ts) (all_say (others ts))
              (beside_taken t ts e (left (list_all (may_part takes t) ts) (each_pair (may_part takes) ts) may))
        ] refl

  -- tables that are beside one another and beside those of a level may come first, wherever they are placed
  pub all_placed_say : (level : ℕ) (ts us : List TableView) → each_pair is_beside ts ≡ true →
      list_all (λ t. list_all (is_beside t) us) ts ≡ true →
      all_say (all_placed (comes_before level) ts us) ≡ option_or (all_say ts) (all_say us)
  all_placed_say level [] us apart clear = refl
  all_placed_say level (t ∷ ts) us apart clear =
      let here : list_all (is_beside t) (all_placed (comes_before level) ts us) ≡ true =
      list_all_all_placed (is_beside t) (comes_before level) ts us
      ∙ (λ i. left (list_all (is_beside t) ts) (each_pair is_beside ts) apart i
      && left (list_all (is_beside t) us) (list_all (λ w. list_all (is_beside w) us) ts) clear i) in
      placed_says layers key level t (all_placed (comes_before level) ts us) (all_beside t (all_placed (comes_before level) ts us) here)
      ∙ ap (option_or (says t)) (all_placed_say level ts us (right (list_all (is_beside t) ts) (each_pair is_beside ts) apart)
      (right (list_all (is_beside t) us) (list_all (λ w. list_all (is_beside w) us) ts) clear))
      ∙ sym (option_or_groups (says t) (all_say ts) (all_say us))

  -- ---- whose bounds hold the key

  abbrev pub IsOutside : TableView → Type 0
  IsOutside t = holds_key t.view.bounds key ≡ false

  pub record HoldsIt (ts : List TableView) : Type 0 where
    pub table : TableView
    pub is_in : In ts table
    pub holds : holds_key table.view.bounds key ≡ true

  pub held_or_not : (ts : List TableView) → HoldsIt ts ⊎ All IsOutside ts
  held_or_not [] = inr (All-nil IsOutside)
  held_or_not (t ∷ ts) =
      elim (holds_key t.view.bounds key) as (λ b. holds_key t.view.bounds key ≡ b → HoldsIt (t ∷ ts) ⊎ All IsOutside (t ∷ ts)) [
        | true ↦ λ e. inl (record { table = t; is_in = inl refl; holds = e })
        | false ↦ λ e. elim (held_or_not ts) [
          | inl later ↦ inl (record { table = later.table; is_in = inr later.is_in; holds = later.holds })
          | inr none ↦ inr (All-cons IsOutside t ts e none)
        ]
      ] refl
