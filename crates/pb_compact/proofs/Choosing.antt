-- What a compaction chooses of a version fits it.
use Rattle.std.proofs.Common.{◌≡◌, ℕ, ◌+◌, ◌-◌, ◌<◌, ◌≤◌, List, [], ◌++◌, Bool, true, false, cond, drop, refl, ap, sym, ◌∙◌, subst, arith, inl, inr, eq-eqb}
use Rattle.std.proofs.lemmas.Bool.{cases_lt, not-true}
use Rattle.std.proofs.lemmas.Bool.Decides.{nat_tests}
use Rattle.std.proofs.lemmas.List.{get_or-drop}
use Rattle.std.specs.Prelude.{◌⊎◌, not, ◌&&◌, ◌||◌, ◌==◌, map, filter, Some, None, All, Contains}
use Rattle.std.specs.List.{list_any}
use Rattle.pb_keys.specs.Span.{KeySpan, overlap}
use Rattle.pb_keys.proofs.SpanFacts.{overlap_turns}
use Rattle.pb_rows.proofs.HullHolds.{LiesWithin, hull_holds}
use Rattle.pb_rows.proofs.HullLaws.{no_spans}
use Rattle.pb_version.specs.Version.{TableView, VersionView, tables_of_level}
use Rattle.pb_version.specs.Edited.{comes_before}
use Rattle.pb_version.specs.Rules.{each_pair, are_apart, are_all_apart}
use Rattle.pb_version.proofs.Pairs.{pairs_filter}
use Rattle.pb_compact.specs.Chosen.{Chosen, AreInTurn, Fits, IsInput, IsBesideAll, IsNewerThanAll, StandIn, meets, hull_of_tables, firsts_of, seconds_of, tables_below, at_level, chosen_of}
use Rattle.pb_compact.specs.Compacted.{AreInPlace}
use Rattle.pb_compact.proofs.Left.{in_flattened}
use Rattle.pb_compact.proofs.LevelsAfter.{on_each}
use Rattle.pb_compact.proofs.Members.{In, contains, every, for_each, none_of, of_filter, into_filter, of_map, into_map, of_append, in_first, in_second, pair_of}
use Rattle.pb_compact.proofs.Overlaps.{clear_of_inner}

-- ---- the hull of tables

bounds_of : List TableView → List KeySpan
bounds_of ts = map (λ t. t.view.bounds) ts

pub within_hull : (ts : List TableView) (hull : KeySpan) (t : TableView) → hull_of_tables ts ≡ Some hull → In ts t →
    LiesWithin hull t.view.bounds
within_hull ts hull t is has =
    every (LiesWithin hull) (map (λ (u : TableView). u.view.bounds) ts) t.view.bounds
    (hull_holds (map (λ (u : TableView). u.view.bounds) ts) hull is) (into_map (λ (u : TableView). u.view.bounds) ts t has)

pub no_tables : (ts : List TableView) (t : TableView) → hull_of_tables ts ≡ None → In ts t → ⊥
no_tables ts t none has =
    subst (λ spans. In spans t.view.bounds) (no_spans (map (λ (u : TableView). u.view.bounds) ts) none)
    (into_map (λ (u : TableView). u.view.bounds) ts t has)

-- what doesn't meet the hull of tables overlaps none of them
pub clear_of_hull : (ts : List TableView) (u t : TableView) → meets (hull_of_tables ts) u ≡ false → In ts t →
    overlap u.view.bounds t.view.bounds ≡ false
clear_of_hull ts u t apart has =
    elim (hull_of_tables ts) as (λ o. hull_of_tables ts ≡ o → meets o u ≡ false → overlap u.view.bounds t.view.bounds ≡ false) [
      | None ↦ λ none _. absurd (no_tables ts t none has)
      | Some hull ↦ λ is clear. clear_of_inner u.view.bounds t.view.bounds hull (within_hull ts hull t is has) clear
    ] refl apart

deep : (n : ℕ) → (n + 1 == 0) ≡ false
deep n = grind (arith, nat_tests)

module _ (v : VersionView) (level : ℕ) (span : KeySpan) (place : AreInPlace v) where
  abbrev pub chosen : Chosen
  chosen = chosen_of v level span

  abbrev firsts : List TableView
  firsts = firsts_of v level span

  abbrev seconds : List TableView
  seconds = seconds_of v level span

  pub sorted_on : (l : ℕ) → each_pair (comes_before l) (tables_of_level v l) ≡ true
  sorted_on l = on_each (λ k ts. each_pair (comes_before k) ts) (λ k. refl) v.levels l place.sorted

  apart_on : (l : ℕ) → are_all_apart l (tables_of_level v l) ≡ true
  apart_on l = on_each are_all_apart (λ k. refl) v.levels l place.apart

  abbrev takes_all : Bool
  takes_all = level == 0 && list_any (meets (Some span)) (tables_of_level v level)

  pub first_order : each_pair (comes_before level) firsts ≡ true
  first_order =
      elim takes_all as (λ b. each_pair (comes_before level)
      (cond b (tables_of_level v level) (filter (meets (Some span)) (tables_of_level v level))) ≡ true) [
        | true ↦ sorted_on level
        | false ↦ pairs_filter (comes_before level) (meets (Some span)) (tables_of_level v level) (sorted_on level)
      ]

  abbrev pub turn : AreInTurn chosen
  turn = record {
    firsts = firsts;
    seconds = seconds;
    inputs = refl;
    first_order = first_order;
    second_order = pairs_filter (comes_before (level + 1)) (meets (hull_of_tables firsts)) (tables_of_level v (level + 1))
        (sorted_on (level + 1));
  }

  first_stands : (t : TableView) → In firsts t → In (tables_of_level v level) t
  first_stands t in_them =
      elim takes_all as (λ b. In (cond b (tables_of_level v level) (filter (meets (Some span)) (tables_of_level v level))) t →
      In (tables_of_level v level) t) [
        | true ↦ λ has. has
        | false ↦ λ has. let both = of_filter (meets (Some span)) (tables_of_level v level) t has in both.is_in
      ] in_them

  second_stands : (t : TableView) → In seconds t → In (tables_of_level v (level + 1)) t
  second_stands t has = let both = of_filter (meets (hull_of_tables firsts)) (tables_of_level v (level + 1)) t has in both.is_in

  -- what holds of the first ones and of the second ones holds of all inputs
  of_inputs : (P : (ℕ × TableView) → Type 0) → ((t : TableView) → In firsts t → P (level, t)) →
      ((t : TableView) → In seconds t → P (level + 1, t)) →
      All P chosen.inputs
  of_inputs P of_first of_second = for_each P chosen.inputs (λ input has.
      elim (of_append (at_level level firsts) (at_level (level + 1) seconds) input has) [
        | inl first ↦
            let it = of_map (λ (t : TableView). (level, t)) firsts input first in
            subst P it.image (of_first it.item it.is_in)
        | inr second ↦
            let it = of_map (λ (t : TableView). (level + 1, t)) seconds input second in
            subst P it.image (of_second it.item it.is_in)
      ])

  pub stand : StandIn v chosen
  stand = of_inputs (λ (input : ℕ × TableView). Contains (tables_of_level v input.0) input.1)
      (λ t has. contains (tables_of_level v level) t (first_stands t has))
      (λ t has. contains (tables_of_level v (level + 1)) t (second_stands t has))

  -- ---- of the next level

  beside_next : (t u : TableView) → are_apart (level + 1) t u ≡ true → overlap t.view.bounds u.view.bounds ≡ false
  beside_next t u apart = not-true (overlap t.view.bounds u.view.bounds)
      (ap (λ b. (b && not (t.rank == u.rank)) || not (overlap t.view.bounds u.view.bounds)) (sym (deep level)) ∙ apart)

  -- a table of the next level that isn't taken overlaps no second one
  pub clear_of_second : (t u : TableView) → In (tables_of_level v (level + 1)) t → meets (hull_of_tables firsts) t ≡ false → In seconds u →
      overlap t.view.bounds u.view.bounds ≡ false
  clear_of_second t u has apart second =
      let both = of_filter (meets (hull_of_tables firsts)) (tables_of_level v (level + 1)) u second in
      elim (pair_of (are_apart (level + 1)) (tables_of_level v (level + 1)) t u (apart_on (level + 1)) has both.is_in) [
        | inl same ↦ let bad : true ≡ false = sym both.passes ∙ sym (ap (meets (hull_of_tables firsts)) same) ∙ apart in cc
        | inr other ↦ elim other [
          | inl before ↦ beside_next t u before
          | inr after ↦ overlap_turns t.view.bounds u.view.bounds ∙ beside_next u t after
        ]
      ]

  beside_all : (t : TableView) → ((u : TableView) → In firsts u → overlap t.view.bounds u.view.bounds ≡ false) →
      ((u : TableView) → In seconds u → overlap t.view.bounds u.view.bounds ≡ false) → IsBesideAll chosen t
  beside_all t of_first of_second = of_inputs
      (λ (input : ℕ × TableView). overlap t.view.bounds input.1.view.bounds ≡ false) of_first of_second

  next_clear : (t : TableView) → In (tables_of_level v (level + 1)) t → IsInput chosen (level + 1) t ⊎ IsBesideAll chosen t
  next_clear t has =
      elim (meets (hull_of_tables firsts) t) as
      (λ b. meets (hull_of_tables firsts) t ≡ b → IsInput chosen (level + 1) t ⊎ IsBesideAll chosen t) [
        | true ↦ λ e. inl (contains chosen.inputs (level + 1, t)
            (in_second (at_level level firsts) (at_level (level + 1) seconds) (level + 1, t)
            (into_map (λ (u : TableView). (level + 1, u)) seconds t
            (into_filter (meets (hull_of_tables firsts)) (tables_of_level v (level + 1)) t has e))))
        | false ↦ λ e. inr (beside_all t (λ u first. clear_of_hull firsts t u e first) (λ u second. clear_of_second t u has e second))
      ] refl

  -- ---- below

  module _ (dropped : chosen.keeps_deletions ≡ false) where
    below_clear : (t : TableView) → In (tables_below v (level + 1)) t → IsBesideAll chosen t
    below_clear t has =
        let apart : meets (hull_of_tables (firsts ++ seconds)) t ≡ false = none_of (meets (hull_of_tables (firsts ++ seconds)))
        (tables_below v (level + 1)) t has dropped in
        beside_all t (λ u first. clear_of_hull (firsts ++ seconds) t u apart (in_first firsts seconds u first))
        (λ u second. clear_of_hull (firsts ++ seconds) t u apart (in_second firsts seconds u second))

    is_below_it : (l : ℕ) (t : TableView) → level + 1 + 1 ≤ l → In (tables_of_level v l) t → In (tables_below v (level + 1)) t
    is_below_it l t deeper has =
        let place_of : level + 1 + 1 + (l - (level + 1 + 1)) ≡ l = omega arith in
        in_flattened (drop (level + 1 + 1) v.levels) (l - (level + 1 + 1)) t
        (subst (λ ts. In ts t) (sym (get_or-drop (level + 1 + 1) v.levels (l - (level + 1 + 1)) [] ∙ ap (tables_of_level v) place_of)) has)

    pub clear : (l : ℕ) → level < l → All (λ t. IsInput chosen l t ⊎ IsBesideAll chosen t) (tables_of_level v l)
    clear l deeper =
        elim (cases_lt (level + 1) l) [
          | inl below ↦ for_each (λ t. IsInput chosen l t ⊎ IsBesideAll chosen t) (tables_of_level v l)
              (λ t has. inr (below_clear t (is_below_it l t (omega (arith, below)) has)))
          | inr upto ↦
              let same : level + 1 ≡ l = omega (arith, upto, deeper) in
              subst (λ k. All (λ t. IsInput chosen k t ⊎ IsBesideAll chosen t) (tables_of_level v k)) same
              (for_each (λ t. IsInput chosen (level + 1) t ⊎ IsBesideAll chosen t) (tables_of_level v (level + 1)) next_clear)
        ]

  -- ---- on level 0

  all_or_none : level ≡ 0 → All (λ t. IsInput chosen 0 t ⊎ IsNewerThanAll chosen t) (tables_of_level v 0)
  all_or_none first =
      elim (list_any (meets (Some span)) (tables_of_level v level)) as (λ b. list_any (meets (Some span)) (tables_of_level v level) ≡ b →
      All (λ t. IsInput chosen 0 t ⊎ IsNewerThanAll chosen t) (tables_of_level v 0)) [
        | true ↦ λ e. subst (λ l. All (λ t. IsInput chosen l t ⊎ IsNewerThanAll chosen t) (tables_of_level v l)) first
            (for_each (λ t. IsInput chosen level t ⊎ IsNewerThanAll chosen t) (tables_of_level v level) (λ t has.
            inl (contains chosen.inputs (level, t) (in_first (at_level level firsts) (at_level (level + 1) seconds) (level, t)
            (into_map (λ (u : TableView). (level, u)) firsts t (all_are e t has))))))
        | false ↦ λ e. for_each (λ t. IsInput chosen 0 t ⊎ IsNewerThanAll chosen t) (tables_of_level v 0) (λ t has.
            inr (of_inputs (λ (input : ℕ × TableView). input.0 ≡ 0 → input.1.rank < t.rank)
            (λ u is _. absurd (none_are e u is))
            (λ u _ bad. absurd (omega (arith, bad)))))
      ] refl
    where
      all_are : list_any (meets (Some span)) (tables_of_level v level) ≡ true → (t : TableView) → In (tables_of_level v level) t →
          In firsts t
      all_are e t has =
          let all : takes_all ≡ true = λ i. eq-eqb level 0 first i && e i in
          subst (λ b. In (cond b (tables_of_level v level) (filter (meets (Some span)) (tables_of_level v level))) t) (sym all) has

      none_are : list_any (meets (Some span)) (tables_of_level v level) ≡ false → (t : TableView) → In firsts t → ⊥
      none_are e t has =
          let none : takes_all ≡ false = and_false (level == 0) (list_any (meets (Some span)) (tables_of_level v level)) e in
          let both = of_filter (meets (Some span)) (tables_of_level v level) t
          (subst (λ b. In (cond b (tables_of_level v level) (filter (meets (Some span)) (tables_of_level v level))) t) none has) in
          let bad : true ≡ false = sym both.passes ∙ none_of (meets (Some span)) (tables_of_level v level) t both.is_in e in cc
        where
          and_false : (a b : Bool) → b ≡ false → (a && b) ≡ false
          and_false true b e = e
          and_false false b e = refl

  pub chosen_fits : Fits v chosen
  chosen_fits = record { in_turn = turn; stand = stand; clear = clear; newest = all_or_none }
