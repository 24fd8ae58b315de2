-- What new tables on top do to a map: their layers are the newest, in whatever order.
use Rattle.std.proofs.Common.{◌≡◌, ℕ, ◌+◌, ◌-◌, ◌<◌, ◌≤◌, suc, List, [], ◌∷◌, ◌++◌, Bool, true, false, cond, length, reverse, refl, ap, sym, ◌∙◌, subst, arith, inl, inr, eq-eqb}
use Rattle.std.proofs.lemmas.Bool.Decides.{nat_tests}
use Rattle.std.proofs.lemmas.Bool.{cases_lt, not-true}
use Rattle.std.proofs.lemmas.List.{map-append, reverse-reverse}
use Rattle.std.proofs.lemmas.List.Elements.{All-cons, All-nil, All-head, All-tail}
use Rattle.std.proofs.lemmas.List.Kept.{AllPairs-cons}
use Rattle.std.specs.Prelude.{not, ◌==◌, ◌&&◌, ◌||◌, nat_lt, map, Some, None, All, Contains, unwrap_or}
use Rattle.std.specs.List.{filter, list_all, AllPairs}
use Rattle.std.specs.Option.{option_or}
use Rattle.std.specs.FinMap.{empty, get}
use Rattle.pb_edit.specs.Edit.{PhysicalItem}
use Rattle.pb_keys.specs.Map.{Map}
use Rattle.pb_keys.specs.Span.{KeySpan, span_of, holds_key, overlap}
use Rattle.pb_keys.proofs.MapFacts.{same_pairs}
use Rattle.pb_keys.proofs.Tests.{second_is_false}
use Rattle.pb_keys.proofs.Lists.{in_reverse}
use Rattle.pb_rows.specs.Applied.{applied_in_turn}
use Rattle.pb_rows.specs.Hull.{hull_of, HullsApart, HaveSameLayers}
use Rattle.pb_rows.specs.Layer.{KeyLayer}
use Rattle.pb_rows.specs.Verdict.{Verdict, verdict, verdicts}
use Rattle.pb_rows.specs.Viewed.{viewed, mapped}
use Rattle.pb_rows.proofs.ApartLayers.{same_members_say}
use Rattle.pb_rows.proofs.ChangingLaws.{get-applied_in_turn}
use Rattle.pb_rows.proofs.HullHolds.{shown_within}
use Rattle.pb_rows.proofs.VerdictLaws.{get-applied_newest_first, verdicts-append, option_or_groups, one_after_other}
use Rattle.pb_rows.proofs.ViewLaws.{holds-apart, verdict-bounded}
use Rattle.pb_version.specs.Version.{TableView, VersionView, version_of, all_tables, flattened}
use Rattle.pb_version.specs.Edited.{comes_before, starts_below, physical_table, placed, all_placed, each_level}
use Rattle.pb_version.specs.Rules.{each_pair}
use Rattle.pb_version.specs.Meaning.{layer_of_table, map_of}
use Rattle.pb_version.specs.Judged.{all_levels}
use Rattle.pb_version.specs.Adding.{tables_for, level_with, with_tables, is_under, level_is_under, IsOnTop, StandsOnTop, bounds_apart, AllStandOnTop, layers_of}
use Rattle.pb_version.proofs.Lists.{left, right, list_all_all_placed}
use Rattle.pb_version.proofs.Levels.{flattened_cons, each_of_each, levels_gives}
use Rattle.pb_version.proofs.MeaningLaws.{map_of-newest_first}

-- ---- verdicts, of which one is silent

silent_first : (a b c : Verdict) → a ≡ None → option_or b (option_or a c) ≡ option_or a (option_or b c)
silent_first a b c none = λ i. (ap (λ o. option_or b (option_or o c)) none ∙ sym (ap (λ o. option_or o (option_or b c)) none)) i

silent_second : (a b c : Verdict) → b ≡ None → option_or b (option_or a c) ≡ option_or a (option_or b c)
silent_second a b c none = ap (λ o. option_or o (option_or a c)) none ∙ sym (ap (λ o. option_or a (option_or o c)) none)

-- ---- one table

module _ (layers : ℕ → KeyLayer) (key : List ℕ) where
  abbrev says : TableView → Verdict
  says t = verdict (layer_of_table layers t) key

  abbrev all_say : List TableView → Verdict
  all_say ts = verdicts (map (layer_of_table layers) ts) key

  -- outside its bounds a table says nothing
  pub silent_outside : (t : TableView) → holds_key t.view.bounds key ≡ false → says t ≡ None
  unfolding viewed
  silent_outside t outside = verdict-bounded t.view.bounds (mapped t.view (layers t.backing)) key ∙ ap (λ b. cond b (verdict (mapped t.view (layers t.backing)) key) None) outside

  -- of two tables whose bounds don't overlap one is silent, so their order doesn't matter
  pub apart_turns : (t u : TableView) (c : Verdict) → not (overlap t.view.bounds u.view.bounds) ≡ true → option_or (says u) (option_or (says t) c) ≡ option_or (says t) (option_or (says u) c)
  apart_turns t u c apart =
      elim (holds_key t.view.bounds key) as (λ b. holds_key t.view.bounds key ≡ b → option_or (says u) (option_or (says t) c) ≡ option_or (says t) (option_or (says u) c)) [
        | true ↦ λ e. silent_second (says t) (says u) c (silent_outside u
            (second_is_false (holds_key t.view.bounds key) (holds_key u.view.bounds key) (holds-apart t.view.bounds u.view.bounds key (not-true (overlap t.view.bounds u.view.bounds) apart)) e))
        | false ↦ λ e. silent_first (says t) (says u) c (silent_outside t e)
      ] refl

  pub all_append : (ts us : List TableView) → all_say (ts ++ us) ≡ option_or (all_say ts) (all_say us)
  all_append ts us = ap (λ ls. verdicts ls key) (map-append (layer_of_table layers) ts us) ∙ verdicts-append (map (layer_of_table layers) ts) (map (layer_of_table layers) us) key

  -- tables that a table doesn't overlap may come before it
  above_turns : (t : TableView) (us : List TableView) (c : Verdict) → list_all (λ (u : TableView). not (overlap t.view.bounds u.view.bounds)) us ≡ true →
      option_or (all_say us) (option_or (says t) c) ≡ option_or (says t) (option_or (all_say us) c)
  above_turns t [] c apart = refl
  above_turns t (u ∷ us) c apart =
      let here = left (not (overlap t.view.bounds u.view.bounds)) (list_all (λ (w : TableView). not (overlap t.view.bounds w.view.bounds)) us) apart in
      let later = right (not (overlap t.view.bounds u.view.bounds)) (list_all (λ (w : TableView). not (overlap t.view.bounds w.view.bounds)) us) apart in
      option_or_groups (says u) (all_say us) (option_or (says t) c)
      ∙ ap (option_or (says u)) (above_turns t us c later)
      ∙ apart_turns t u (option_or (all_say us) c) here
      ∙ ap (option_or (says t)) (sym (option_or_groups (says u) (all_say us) c))

  -- where a table of its own level stands before it, they don't overlap
  stands_apart : (level : ℕ) (t u : TableView) → is_under level t level u ≡ true → comes_before level t u ≡ false → not (overlap t.view.bounds u.view.bounds) ≡ true
  stands_apart level t u under before =
      elim (level == 0) as (λ z. ((nat_lt level level || not (overlap t.view.bounds u.view.bounds)) || ((z && z) && nat_lt u.rank t.rank)) ≡ true →
      cond z (nat_lt u.rank t.rank || (u.rank == t.rank && starts_below t u)) (starts_below t u) ≡ false → not (overlap t.view.bounds u.view.bounds) ≡ true) [
        | true ↦ λ e d. on_first (nat_lt level level) (not (overlap t.view.bounds u.view.bounds)) (nat_lt u.rank t.rank) (u.rank == t.rank && starts_below t u) (not_below level) e d
        | false ↦ λ e d. deeper (nat_lt level level) (not (overlap t.view.bounds u.view.bounds)) (not_below level) e
      ] under before
    where
      not_below : (n : ℕ) → nat_lt n n ≡ false
      not_below n = grind (arith, nat_tests)

      on_first : (s n r b : Bool) → s ≡ false → ((s || n) || r) ≡ true → (r || b) ≡ false → n ≡ true
      on_first true n r b f e d = cc
      on_first false true r b f e d = refl
      on_first false false true b f e d = cc
      on_first false false false b f e d = e

      deeper : (s n : Bool) → s ≡ false → ((s || n) || false) ≡ true → n ≡ true
      deeper true n f e = cc
      deeper false true f e = refl
      deeper false false f e = e

  placed_on_top : (level : ℕ) (t : TableView) (us : List TableView) → level_is_under level t level us ≡ true → all_say (placed (comes_before level) t us) ≡ option_or (says t) (all_say us)
  placed_on_top level t [] under = refl
  placed_on_top level t (u ∷ us) under =
      elim (comes_before level t u) as (λ b. comes_before level t u ≡ b → all_say (cond b (t ∷ u ∷ us) (u ∷ placed (comes_before level) t us)) ≡ option_or (says t) (option_or (says u) (all_say us))) [
        | true ↦ λ e. refl
        | false ↦ λ e.
            ap (option_or (says u)) (placed_on_top level t us (right (is_under level t level u) (level_is_under level t level us) under))
            ∙ apart_turns t u (all_say us) (stands_apart level t u (left (is_under level t level u) (level_is_under level t level us) under) e)
      ] refl

  -- ---- over all levels

  module _ (p : PhysicalItem) where
    abbrev t : TableView
    t = physical_table p

    one_with : (l : ℕ) (ts : List TableView) → (p.level == l) ≡ true → level_with (p ∷ []) l ts ≡ placed (comes_before l) t ts
    one_with l ts e = ap (λ b. all_placed (comes_before l) (map physical_table (cond b (p ∷ []) [])) ts) e

    none_with : (l : ℕ) (ts : List TableView) → (p.level == l) ≡ false → level_with (p ∷ []) l ts ≡ ts
    none_with l ts e = ap (λ b. all_placed (comes_before l) (map physical_table (cond b (p ∷ []) [])) ts) e

    above_apart : (l : ℕ) (us : List TableView) → l < p.level → level_is_under p.level t l us ≡ true → list_all (λ (u : TableView). not (overlap t.view.bounds u.view.bounds)) us ≡ true
    above_apart l [] h under = refl
    above_apart l (u ∷ us) h under = λ i.
        one_apart (nat_lt p.level l) (not (overlap t.view.bounds u.view.bounds)) (l == 0) (p.level == 0) (nat_lt u.rank t.rank) (not_lower p.level l h) (not_first p.level l h)
        (left (is_under p.level t l u) (level_is_under p.level t l us) under) i
        && above_apart l us h (right (is_under p.level t l u) (level_is_under p.level t l us) under) i
      where
        not_lower : (m n : ℕ) → n < m → nat_lt m n ≡ false
        not_lower m n h = grind (arith, nat_tests)

        not_first : (m n : ℕ) → n < m → (m == 0) ≡ false
        not_first m n h = grind (arith, nat_tests)

        one_apart : (s n z y r : Bool) → s ≡ false → y ≡ false → ((s || n) || ((z && y) && r)) ≡ true → n ≡ true
        one_apart true n z y r f g e = cc
        one_apart false true z y r f g e = refl
        one_apart false false z true r f g e = cc
        one_apart false false true false r f g e = e
        one_apart false false false false r f g e = e

    deeper_stay : (k : ℕ) (ls : List (List TableView)) → p.level < k → each_level (level_with (p ∷ [])) k ls ≡ ls
    deeper_stay k [] h = refl
    deeper_stay k (ts ∷ ls) h = λ i. none_with k ts (other p.level k h) i ∷ deeper_stay (k + 1) ls (omega arith) i
      where
        other : (m n : ℕ) → m < n → (m == n) ≡ false
        other m n h = grind (arith, nat_tests)

    levels_say : (k : ℕ) (ls : List (List TableView)) → k ≤ p.level → p.level < k + length ls → all_levels (level_is_under p.level t) k ls ≡ true →
        all_say (flattened (each_level (level_with (p ∷ [])) k ls)) ≡ option_or (says t) (all_say (flattened ls))
    levels_say k [] from to under = absurd (omega arith)
    levels_say k (ts ∷ ls) from to under =
        let here = left (level_is_under p.level t k ts) (all_levels (level_is_under p.level t) (k + 1) ls) under in
        let later = right (level_is_under p.level t k ts) (all_levels (level_is_under p.level t) (k + 1) ls) under in
        ap all_say (flattened_cons (level_with (p ∷ []) k ts) (each_level (level_with (p ∷ [])) (k + 1) ls))
        ∙ all_append (level_with (p ∷ []) k ts) (flattened (each_level (level_with (p ∷ [])) (k + 1) ls))
        ∙ elim (cases_lt k p.level) [
          | inl above ↦
              (λ i. option_or (all_say (none_with k ts (other p.level k above) i)) (levels_say (k + 1) ls (omega arith) (omega arith) later i))
              ∙ above_turns t ts (all_say (flattened ls)) (above_apart k ts above here)
          | inr past ↦
              let same : p.level ≡ k = omega arith in
              let own : level_is_under k t k ts ≡ true = ap (λ m. level_is_under m t k ts) (sym same) ∙ here in
              (λ i. option_or ((ap all_say (one_with k ts (eq-eqb p.level k same)) ∙ placed_on_top k t ts own) i) (all_say (flattened (deeper_stay (k + 1) ls (omega arith) i))))
              ∙ option_or_groups (says t) (all_say ts) (all_say (flattened ls))
        ]
        ∙ ap (option_or (says t)) (sym (ap all_say (flattened_cons ts ls) ∙ all_append ts (flattened ls)))
      where
        other : (m n : ℕ) → n < m → (m == n) ≡ false
        other m n h = grind (arith, nat_tests)

    -- what the new table says is what its layer says
    says_its_layer : hull_of (layers p.number) ≡ Some (span_of p.lo p.hi) → says t ≡ verdict (layers p.number) key
    says_its_layer hull = shown_within (layers p.number) (span_of p.lo p.hi) key hull

pub one_on_top : (v : VersionView) (layers : ℕ → KeyLayer) (p : PhysicalItem) → StandsOnTop v layers p → (key : List ℕ) →
    verdicts (map (layer_of_table layers) (all_tables (with_tables v (p ∷ [])))) key ≡ option_or (verdict (layers p.number) key) (verdicts (map (layer_of_table layers) (all_tables v)) key)
unfolding with_tables
one_on_top v layers p stands key =
    levels_say layers key p 0 v.levels (omega arith) (omega (arith, stands.level)) stands.on_top
    ∙ ap (λ o. option_or o (verdicts (map (layer_of_table layers) (all_tables v)) key)) (says_its_layer layers key p stands.hull)

-- ---- several tables, one after another

level_of_more : (p : PhysicalItem) (ps : List PhysicalItem) (l : ℕ) (ts : List TableView) → level_with (p ∷ ps) l ts ≡ level_with (p ∷ []) l (level_with ps l ts)
level_of_more p ps l ts =
    elim (p.level == l) as (λ b.
    all_placed (comes_before l) (map physical_table (cond b (p ∷ filter (λ (q : PhysicalItem). q.level == l) ps) (filter (λ (q : PhysicalItem). q.level == l) ps))) ts
    ≡ all_placed (comes_before l) (map physical_table (cond b (p ∷ []) [])) (level_with ps l ts)) [ true ↦ refl | false ↦ refl ]

with_more : (v : VersionView) (p : PhysicalItem) (ps : List PhysicalItem) → with_tables v (p ∷ ps) ≡ with_tables (with_tables v ps) (p ∷ [])
unfolding with_tables
with_more v p ps = ap (λ ls. version_of ls v.backings v.five)
    (ap (λ f. each_level f 0 v.levels) (λ i l ts. level_of_more p ps l ts i) ∙ sym (each_of_each (level_with (p ∷ [])) (level_with ps) 0 v.levels))

with_none : (v : VersionView) → with_tables v [] ≡ v
unfolding with_tables
with_none v = ap (λ ls. version_of ls v.backings v.five) (same 0 v.levels)
  where
    same : (k : ℕ) (ls : List (List TableView)) → each_level (level_with []) k ls ≡ ls
    same k [] = refl
    same k (ts ∷ ls) = ap (λ us. ts ∷ us) (same (k + 1) ls)

levels_with : (v : VersionView) (ps : List PhysicalItem) → length (with_tables v ps).levels ≡ length v.levels
unfolding with_tables
levels_with v ps = same 0 v.levels
  where
    same : (k : ℕ) (ls : List (List TableView)) → length (each_level (level_with ps) k ls) ≡ length ls
    same k [] = refl
    same k (ts ∷ ls) = ap suc (same (k + 1) ls)

-- new tables whose bounds don't overlap stand under one another
new_under : (p : PhysicalItem) (qs : List PhysicalItem) (l : ℕ) → list_all (bounds_apart p) qs ≡ true → level_is_under p.level (physical_table p) l (tables_for qs l) ≡ true
new_under p [] l apart = refl
new_under p (q ∷ qs) l apart =
    let later = new_under p qs l (right (bounds_apart p q) (list_all (bounds_apart p) qs) apart) in
    elim (q.level == l) as (λ b. level_is_under p.level (physical_table p) l (map physical_table (cond b (q ∷ filter (λ (r : PhysicalItem). r.level == l) qs) (filter (λ (r : PhysicalItem). r.level == l) qs))) ≡ true) [
      | true ↦ λ i. under (nat_lt p.level l) (bounds_apart p q) (l == 0 && p.level == 0 && nat_lt q.rank p.rank) (left (bounds_apart p q) (list_all (bounds_apart p) qs) apart) i && later i
      | false ↦ later
    ]
  where
    under : (s n r : Bool) → n ≡ true → ((s || n) || r) ≡ true
    under true n r e = refl
    under false true r e = refl
    under false false r e = cc

still_on_top : (v : VersionView) (p : PhysicalItem) (qs : List PhysicalItem) → list_all (bounds_apart p) qs ≡ true → IsOnTop v p.level (physical_table p) →
    IsOnTop (with_tables v qs) p.level (physical_table p)
unfolding with_tables
still_on_top v p qs apart on =
    ap (list_all (λ under. under)) (each_of_each (level_is_under p.level (physical_table p)) (level_with qs) 0 v.levels)
    ∙ levels_gives (level_is_under p.level (physical_table p)) (level_is_under p.level (physical_table p)) (λ l ts. level_is_under p.level (physical_table p) l (level_with qs l ts))
    (λ l ts h _. list_all_all_placed (is_under p.level (physical_table p) l) (comes_before l) (tables_for qs l) ts ∙ (λ i. new_under p qs l apart i && h i)) 0 v.levels on on

abbrev nothing : Map
nothing = empty

module _ (v : VersionView) (layers : ℕ → KeyLayer) where
  pub verdicts_on_top : (ps : List PhysicalItem) → AllStandOnTop v layers ps → (key : List ℕ) →
      verdicts (map (layer_of_table layers) (all_tables (with_tables v ps))) key ≡ option_or (verdicts (layers_of layers ps) key) (verdicts (map (layer_of_table layers) (all_tables v)) key)
  verdicts_on_top [] all key = ap (λ w. verdicts (map (layer_of_table layers) (all_tables w)) key) (with_none v)
  verdicts_on_top (p ∷ ps) all key =
      let first = All-head (StandsOnTop v layers) p ps all.each in
      let apart = left (list_all (bounds_apart p) ps) (each_pair bounds_apart ps) all.apart in
      let rest : AllStandOnTop v layers ps = record { each = All-tail (StandsOnTop v layers) p ps all.each; apart = right (list_all (bounds_apart p) ps) (each_pair bounds_apart ps) all.apart } in
      let stands : StandsOnTop (with_tables v ps) layers p = record {
        level = subst (λ n. p.level < n) (sym (levels_with v ps)) first.level;
        on_top = still_on_top v p ps apart first.on_top;
        hull = first.hull;
      } in
      ap (λ w. verdicts (map (layer_of_table layers) (all_tables w)) key) (with_more v p ps)
      ∙ one_on_top (with_tables v ps) layers p stands key
      ∙ ap (option_or (verdict (layers p.number) key)) (verdicts_on_top ps rest key)
      ∙ sym (option_or_groups (verdict (layers p.number) key) (verdicts (layers_of layers ps) key) (verdicts (map (layer_of_table layers) (all_tables v)) key))

  -- at a key the map has what the new layers say, or else what it had
  pub get_on_top : (ps : List PhysicalItem) → AllStandOnTop v layers ps → (key : List ℕ) → get (map_of (with_tables v ps) layers) key ≡ unwrap_or (verdicts (layers_of layers ps) key) (get (map_of v layers) key)
  get_on_top ps all key =
      ap (λ m. get m key) (map_of-newest_first (with_tables v ps) layers)
      ∙ get-applied_newest_first (map (layer_of_table layers) (all_tables (with_tables v ps))) nothing key
      ∙ ap (λ o. unwrap_or o (get nothing key)) (verdicts_on_top ps all key)
      ∙ sym (one_after_other (verdicts (layers_of layers ps) key) (verdicts (map (layer_of_table layers) (all_tables v)) key) (get nothing key))
      ∙ ap (unwrap_or (verdicts (layers_of layers ps) key)) (sym (ap (λ m. get m key) (map_of-newest_first v layers) ∙ get-applied_newest_first (map (layer_of_table layers) (all_tables v)) nothing key))

  each_hulls_apart : (p : PhysicalItem) (qs : List PhysicalItem) → StandsOnTop v layers p → All (StandsOnTop v layers) qs → list_all (bounds_apart p) qs ≡ true →
      All (HullsApart (layers p.number)) (layers_of layers qs)
  each_hulls_apart p [] stands all apart = All-nil (HullsApart (layers p.number))
  each_hulls_apart p (q ∷ qs) stands all apart =
      All-cons (HullsApart (layers p.number)) (layers q.number) (layers_of layers qs)
      (λ g h is_g is_h.
      let first : span_of p.lo p.hi ≡ g = some_is (span_of p.lo p.hi) g (sym stands.hull ∙ is_g) in
      let second : span_of q.lo q.hi ≡ h = some_is (span_of q.lo q.hi) h (sym ((All-head (StandsOnTop v layers) q qs all).hull) ∙ is_h) in
      sym (λ i. overlap (first i) (second i)) ∙ not-true (overlap (span_of p.lo p.hi) (span_of q.lo q.hi)) (left (bounds_apart p q) (list_all (bounds_apart p) qs) apart))
      (each_hulls_apart p qs stands (All-tail (StandsOnTop v layers) q qs all) (right (bounds_apart p q) (list_all (bounds_apart p) qs) apart))
    where
      some_is : (a b : KeySpan) → Some a ≡ Some b → a ≡ b
      some_is a b e = cc

  hulls_apart : (ps : List PhysicalItem) → AllStandOnTop v layers ps → AllPairs HullsApart (layers_of layers ps)
  hulls_apart [] all = λ i j d h k. absurd (omega arith)
  hulls_apart (p ∷ ps) all =
      let rest : AllStandOnTop v layers ps = record { each = All-tail (StandsOnTop v layers) p ps all.each; apart = right (list_all (bounds_apart p) ps) (each_pair bounds_apart ps) all.apart } in
      AllPairs-cons HullsApart (layers p.number) (layers_of layers ps)
      (each_hulls_apart p ps (All-head (StandsOnTop v layers) p ps all.each) (All-tail (StandsOnTop v layers) p ps all.each) (left (list_all (bounds_apart p) ps) (each_pair bounds_apart ps) all.apart))
      (hulls_apart ps rest)

  pub in_any_order : (ps : List PhysicalItem) (ls : List KeyLayer) → AllStandOnTop v layers ps → HaveSameLayers (layers_of layers ps) ls → map_of (with_tables v ps) layers ≡ applied_in_turn ls (map_of v layers)
  in_any_order ps ls all same =
      let xs = layers_of layers ps in
      let turned : HaveSameLayers xs (reverse ls) = λ layer. (
        λ has. in_reverse ls layer ((same layer).0 has),
        λ has. (same layer).1 (subst (λ ys. Contains ys layer) (reverse-reverse ls) (in_reverse (reverse ls) layer has)),
      ) in
      same_pairs (map_of (with_tables v ps) layers) (applied_in_turn ls (map_of v layers)) (λ key.
      get_on_top ps all key
      ∙ ap (λ o. unwrap_or o (get (map_of v layers) key)) (same_members_say xs (reverse ls) turned (hulls_apart ps all) key)
      ∙ sym (get-applied_in_turn ls (map_of v layers) key))
