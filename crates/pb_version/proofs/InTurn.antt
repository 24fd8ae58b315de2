-- What tables say of a key: level by level, and alone where their bounds don't overlap.
use Rattle.std.proofs.Common.{◌≡◌, ℕ, ◌<◌, ◌≤◌, zero, length, get_or, List, [], ◌∷◌, true, false, cond, suc, refl, ap, sym, ◌∙◌, arith, inl, inr}
use Rattle.std.proofs.lemmas.Bool.{not-true, and_parts}
use Rattle.std.proofs.lemmas.Bool.Decides.{nat_tests}
use Rattle.std.proofs.lemmas.List.Elements.{All-nil, All-cons, All-head, All-tail, All-contains, All-contains_itself}
use Rattle.std.specs.Prelude.{◌⊎◌, ◌↔◌, not, ◌&&◌, ◌||◌, ◌==◌, None, All, Contains}
use Rattle.std.specs.List.{list_all}
use Rattle.std.specs.Option.{option_or}
use Rattle.pb_keys.specs.Span.{holds_key, overlap}
use Rattle.pb_keys.proofs.Tests.{second_is_false}
use Rattle.pb_rows.specs.Layer.{KeyLayer}
use Rattle.pb_rows.specs.Verdict.{verdict}
use Rattle.pb_rows.proofs.VerdictLaws.{option_or_none}
use Rattle.pb_rows.proofs.ViewLaws.{holds-apart}
use Rattle.pb_version.specs.Version.{TableView, VersionView, all_tables, flattened}
use Rattle.pb_version.specs.Edited.{comes_before, placed}
use Rattle.pb_version.specs.Rules.{are_apart, are_all_apart}
use Rattle.pb_version.specs.Meaning.{layer_of_table}
use Rattle.pb_version.specs.InTurn.{tables_say, levels_say}
use Rattle.pb_version.proofs.Levels.{flattened_cons}
use Rattle.pb_version.proofs.OnTop.{silent_outside, apart_turns, all_append}

-- ---- level by level

say_in_turn : (layers : ℕ → KeyLayer) (key : List ℕ) (ls : List (List TableView)) → tables_say layers (flattened ls) key ≡ levels_say layers ls key
say_in_turn layers key [] = refl
say_in_turn layers key (ts ∷ ls) =
    ap (λ us. tables_say layers us key) (flattened_cons ts ls)
    ∙ all_append layers key ts (flattened ls)
    ∙ ap (option_or (tables_say layers ts key)) (say_in_turn layers key ls)

pub levels_in_turn : (v : VersionView) (layers : ℕ → KeyLayer) (key : List ℕ) → tables_say layers (all_tables v) key ≡ levels_say layers v.levels key
levels_in_turn v layers key = say_in_turn layers key v.levels

-- ---- tables that are apart

first_or_later : (t u : TableView) (us : List TableView) (k : ℕ) → k < length (u ∷ us) → get_or (u ∷ us) k t ≡ t → (u ≡ t) ⊎ Contains us t
first_or_later t u us zero within is = inl is
first_or_later t u us (suc k) within is = inr (k, omega arith, is)

-- deeper than level 0 no two tables of a level overlap
no_overlap : (level : ℕ) (t u : TableView) → 1 ≤ level → are_apart level t u ≡ true → overlap t.view.bounds u.view.bounds ≡ false
no_overlap level t u deep apart =
    let other : (level == 0) ≡ false = grind (arith, nat_tests) in
    not-true (overlap t.view.bounds u.view.bounds)
    (sym (ap (λ b. (b && not (t.rank == u.rank)) || not (overlap t.view.bounds u.view.bounds)) other) ∙ apart)

none_overlaps : (level : ℕ) (t : TableView) (us : List TableView) → 1 ≤ level → list_all (are_apart level t) us ≡ true →
    All (λ u. overlap t.view.bounds u.view.bounds ≡ false) us
none_overlaps level t [] deep apart = All-nil (λ u. overlap t.view.bounds u.view.bounds ≡ false)
none_overlaps level t (u ∷ us) deep apart =
    let both = and_parts (are_apart level t u) (list_all (are_apart level t) us) apart in
    All-cons (λ w. overlap t.view.bounds w.view.bounds ≡ false) u us (no_overlap level t u deep both.0)
    (none_overlaps level t us deep both.1)

module _ (layers : ℕ → KeyLayer) (key : List ℕ) where
  abbrev Outside : TableView → Type 0
  Outside t = holds_key t.view.bounds key ≡ false

  -- a table whose bounds hold the key leaves it to no table that it doesn't overlap
  other_outside : (t u : TableView) → holds_key t.view.bounds key ≡ true → overlap t.view.bounds u.view.bounds ≡ false → Outside u
  other_outside t u holds apart =
      second_is_false (holds_key t.view.bounds key) (holds_key u.view.bounds key) (holds-apart t.view.bounds u.view.bounds key apart) holds

  others_outside : (t : TableView) (us : List TableView) → holds_key t.view.bounds key ≡ true →
      All (λ u. overlap t.view.bounds u.view.bounds ≡ false) us → All Outside us
  others_outside t [] holds apart = All-nil Outside
  others_outside t (u ∷ us) holds apart =
      All-cons Outside u us
      (other_outside t u holds (All-head (λ w. overlap t.view.bounds w.view.bounds ≡ false) u us apart))
      (others_outside t us holds (All-tail (λ w. overlap t.view.bounds w.view.bounds ≡ false) u us apart))

  pub none_says : (ts : List TableView) → All Outside ts → tables_say layers ts key ≡ None
  none_says [] outside = refl
  none_says (t ∷ ts) outside =
      (λ i. option_or (silent_outside layers key t (All-head Outside t ts outside) i) (tables_say layers ts key))
      ∙ none_says ts (All-tail Outside t ts outside)

  -- of tables that are apart the one whose bounds hold the key
  pub one_says : (level : ℕ) (ts : List TableView) (t : TableView) → 1 ≤ level → are_all_apart level ts ≡ true → Contains ts t →
      holds_key t.view.bounds key ≡ true → tables_say layers ts key ≡ verdict (layer_of_table layers t) key
  one_says level [] t deep apart has holds = absurd (omega (arith, has.1))
  one_says level (u ∷ us) t deep apart has holds =
      let both = and_parts (list_all (are_apart level u) us) (are_all_apart level us) apart in
      let free = none_overlaps level u us deep both.0 in
      elim (first_or_later t u us has.0 has.1 has.2) [
        | inl same ↦
            ap (option_or (verdict (layer_of_table layers u) key))
            (none_says us (others_outside u us (ap (λ w. holds_key w.view.bounds key) same ∙ holds) free))
            ∙ option_or_none (verdict (layer_of_table layers u) key)
            ∙ ap (λ w. verdict (layer_of_table layers w) key) same
        | inr later ↦
            ap (λ o. option_or o (tables_say layers us key)) (silent_outside layers key u (before u us t free later holds))
            ∙ one_says level us t deep both.1 later holds
      ]
    where
      before : (u : TableView) (us : List TableView) (t : TableView) → All (λ w. overlap u.view.bounds w.view.bounds ≡ false) us →
          Contains us t → holds_key t.view.bounds key ≡ true → Outside u
      before u us t free later holds =
          elim (holds_key u.view.bounds key) as (λ b. holds_key u.view.bounds key ≡ b → Outside u) [
            | true ↦ λ e.
                let out = other_outside u t e (All-contains (λ w. overlap u.view.bounds w.view.bounds ≡ false) us t free later) in
                let bad : true ≡ false = sym holds ∙ out in cc
            | false ↦ λ e. e
          ] refl

  -- the first that holds the key, if there is one
  abbrev HoldsIt : List TableView → Type 0
  HoldsIt ts = (t : TableView) × Contains ts t × (holds_key t.view.bounds key ≡ true)

  held_or_not : (ts : List TableView) → HoldsIt ts ⊎ All Outside ts
  held_or_not [] = inr (All-nil Outside)
  held_or_not (t ∷ ts) =
      elim (holds_key t.view.bounds key) as (λ b. holds_key t.view.bounds key ≡ b → HoldsIt (t ∷ ts) ⊎ All Outside (t ∷ ts)) [
        | true ↦ λ e. inl (t, All-head (Contains (t ∷ ts)) t ts (All-contains_itself (t ∷ ts)), e)
        | false ↦ λ e. elim (held_or_not ts) [
          | inl found ↦ inl (
            found.0,
            All-contains (Contains (t ∷ ts)) ts found.0 (All-tail (Contains (t ∷ ts)) t ts (All-contains_itself (t ∷ ts))) found.1,
            found.2,
          )
          | inr outside ↦ inr (All-cons Outside t ts e outside)
        ]
      ] refl

  outside_too : (ts us : List TableView) → ((t : TableView) → Contains ts t ↔ Contains us t) → All Outside ts → All Outside us
  outside_too ts us same outside = all_of us (All-contains_itself us)
    where
      all_of : (ws : List TableView) → All (Contains us) ws → All Outside ws
      all_of [] has = All-nil Outside
      all_of (w ∷ ws) has =
          All-cons Outside w ws (All-contains Outside ts w outside ((same w).1 (All-head (Contains us) w ws has)))
          (all_of ws (All-tail (Contains us) w ws has))

  -- whichever order they stand in
  pub any_order : (level : ℕ) (ts us : List TableView) → 1 ≤ level → are_all_apart level ts ≡ true → are_all_apart level us ≡ true →
      ((t : TableView) → Contains ts t ↔ Contains us t) → tables_say layers ts key ≡ tables_say layers us key
  any_order level ts us deep apart apart_too same =
      elim (held_or_not ts) [
        | inl found ↦
            one_says level ts found.0 deep apart found.1 found.2
            ∙ sym (one_says level us found.0 deep apart_too ((same found.0).0 found.1) found.2)
        | inr outside ↦ none_says ts outside ∙ sym (none_says us (outside_too ts us same outside))
      ]

  -- wherever the table is put among others that it doesn't overlap
  pub placed_says : (level : ℕ) (t : TableView) (us : List TableView) → All (λ u. overlap t.view.bounds u.view.bounds ≡ false) us →
      tables_say layers (placed (comes_before level) t us) key ≡ tables_say layers (t ∷ us) key
  placed_says level t [] apart = refl
  placed_says level t (u ∷ us) apart =
      elim (comes_before level t u) as (λ b. tables_say layers (cond b (t ∷ u ∷ us) (u ∷ placed (comes_before level) t us)) key
      ≡ tables_say layers (t ∷ u ∷ us) key) [
        | true ↦ refl
        | false ↦
            ap (option_or (verdict (layer_of_table layers u) key))
            (placed_says level t us (All-tail (λ w. overlap t.view.bounds w.view.bounds ≡ false) u us apart))
            ∙ apart_turns layers key t u (tables_say layers us key)
            (ap not (All-head (λ w. overlap t.view.bounds w.view.bounds ≡ false) u us apart))
      ]
