-- V4: what an excise leaves of tables that are apart is apart.
use Rattle.std.proofs.Common.{◌≡◌, ℕ, ◌+◌, List, [], ◌∷◌, ◌++◌, Bool, true, false, cond, length, refl, ap, sym, ◌∙◌}
use Rattle.std.proofs.lemmas.Bool.{not-true}
use Rattle.std.proofs.lemmas.List.Folds.{list_all-append}
use Rattle.std.proofs.Math.Bool.{and-false}
use Rattle.std.specs.Prelude.{not, ◌&&◌, ◌||◌, ◌==◌}
use Rattle.std.specs.List.{list_all, AllByRecursion}
use Rattle.pb_keys.specs.Order.{is_below, is_upto, lesser, greater}
use Rattle.pb_keys.specs.Span.{KeySpan, IsSpan, span_of, overlap}
use Rattle.pb_keys.proofs.EndFacts.{below-lesser}
use Rattle.pb_keys.proofs.OrderFacts.{below_itself, below_one_way, below_upto, upto_below}
use Rattle.pb_span_cases.specs.Remainder.{remains}
use Rattle.pb_version.specs.Version.{TableView, VersionView}
use Rattle.pb_version.specs.Edited.{comes_before, new_tables_of_level, staying, level_after, each_level}
use Rattle.pb_version.specs.Rules.{each_pair, are_apart, are_all_apart, is_plain_view, level_keeps_v4, keeps_v4}
use Rattle.pb_version.specs.State.{IsVersion}
use Rattle.pb_version.specs.Above.{lies_within}
use Rattle.pb_version.proofs.Lists.{left, right}
use Rattle.pb_version.proofs.Levels.{list_all_flattened, each_of_each, levels_gives}
use Rattle.pb_version.proofs.Pairs.{apart_turned, pairs_all_placed}
use Rattle.pb_version.proofs.SnapshotSpelling.{pairs_append}
use Rattle.pb_excise.specs.Excised.{parts_of, part_table, numbered_parts, left_of, parts_count, excised_tables, excised_levels}
use Rattle.pb_excise.proofs.Before.{StandsFor}
use Rattle.pb_excise.proofs.Placed.{left_stands}
use Rattle.pb_excise.proofs.Made.{all_levels_made}
use Rattle.pb_excise.proofs.NewTables.{edit}

-- ---- spans within spans

-- p.lo < q.hi, where t.lo <= p.lo and q.hi <= u.hi
reaches : (tl pl qh uh : List ℕ) → is_upto tl pl ≡ true → is_upto qh uh ≡ true → is_below pl qh ≡ true → is_below tl uh ≡ true
reaches tl pl qh uh front back meets =
    below_upto tl qh uh (upto_below tl pl qh (not-true (is_below pl tl) front) meets) (not-true (is_below uh qh) back)

within_overlap : (t u p q : KeySpan) → lies_within p t ≡ true → lies_within q u ≡ true → overlap p q ≡ true → overlap t u ≡ true
unfolding overlap
within_overlap t u p q in_t in_u meets =
    let p_lo = left (is_upto t.lo p.lo) (is_upto p.hi t.hi) in_t in
    let p_hi = right (is_upto t.lo p.lo) (is_upto p.hi t.hi) in_t in
    let q_lo = left (is_upto u.lo q.lo) (is_upto q.hi u.hi) in_u in
    let q_hi = right (is_upto u.lo q.lo) (is_upto q.hi u.hi) in_u in
    λ i.
    reaches t.lo p.lo q.hi u.hi p_lo q_hi (left (is_below p.lo q.hi) (is_below q.lo p.hi) meets) i
    && reaches u.lo q.lo p.hi t.hi q_lo p_hi (right (is_below p.lo q.hi) (is_below q.lo p.hi) meets) i

-- ---- parts of two tables

still_apart : (other meet then_meet : Bool) → (then_meet ≡ true → meet ≡ true) → (other || not meet) ≡ true →
    (other || not then_meet) ≡ true
still_apart true meet then_meet f e = refl
still_apart false meet false f e = refl
still_apart false meet true f e = let bad : false ≡ true = ap not (sym (f refl)) ∙ e in cc

module _ (level : ℕ) where
  -- what stands for two tables is apart where they were
  part_apart : (t u p q : TableView) → StandsFor t p → StandsFor u q → are_apart level t u ≡ true → are_apart level p q ≡ true
  part_apart t u p q is_p is_q e =
      (λ i. (level == 0 && not (is_p.rank i == is_q.rank i)) || not (overlap p.view.bounds q.view.bounds))
      ∙ still_apart (level == 0 && not (t.rank == u.rank)) (overlap t.view.bounds u.view.bounds) (overlap p.view.bounds q.view.bounds)
      (within_overlap t.view.bounds u.view.bounds p.view.bounds q.view.bounds is_p.within is_q.within) e

  apart_each : (t u p : TableView) (qs : List TableView) → StandsFor t p → AllByRecursion (StandsFor u) qs → are_apart level t u ≡ true →
      list_all (are_apart level p) qs ≡ true
  apart_each t u p [] is_p are e = refl
  apart_each t u p (q ∷ qs) is_p are e = λ i. part_apart t u p q is_p are.0 e i && apart_each t u p qs is_p are.1 e i

-- ---- the two parts of one table

greater_upto : (a b : List ℕ) → is_below (greater a b) a ≡ false
greater_upto a b =
    elim (is_below a b) as (λ t. is_below a b ≡ t → is_below (cond t b a) a ≡ false) [
      | true ↦ λ e. below_one_way a b e
      | false ↦ λ _. below_itself a
    ] refl

or_true : (b : Bool) → (b || true) ≡ true
or_true true = refl
or_true false = refl

module _ (cut : KeySpan) (cut_is : IsSpan cut) where
  -- the right one begins behind the cut, where the left one has ended
  sides_apart : (table : KeySpan) →
      overlap (span_of table.lo (lesser table.hi cut.lo)) (span_of (greater cut.hi table.lo) table.hi) ≡ false
  unfolding overlap
  sides_apart table =
      let begins = greater cut.hi table.lo in
      let behind : is_below begins cut.lo ≡ false =
      below_one_way cut.lo begins (below_upto cut.lo cut.hi begins cut_is.rises (greater_upto cut.hi table.lo)) in
      let none : is_below begins (lesser table.hi cut.lo) ≡ false =
      below-lesser begins table.hi cut.lo ∙ ap (λ b. is_below begins table.hi && b) behind ∙ and-false (is_below begins table.hi) in
      ap (λ b. is_below table.lo table.hi && b) none ∙ and-false (is_below table.lo table.hi)

  module _ (level : ℕ) where
    two_apart : (t : TableView) (n : ℕ) (s e : Bool) (a b : KeySpan) → overlap a b ≡ false →
        each_pair (are_apart level) (numbered_parts t n (cond s (a ∷ []) [] ++ cond e (b ∷ []) [])) ≡ true
    two_apart t n true true a b h =
        let apart : are_apart level (part_table t n a) (part_table t (n + 1) b) ≡ true =
        ap (λ m. (level == 0 && not (t.rank == t.rank)) || not m) h ∙ or_true (level == 0 && not (t.rank == t.rank)) in
        λ i. (apart i && true) && true
    two_apart t n true false a b h = refl
    two_apart t n false true a b h = refl
    two_apart t n false false a b h = refl

    left_apart : (t : TableView) (n : ℕ) → each_pair (are_apart level) (left_of cut n t) ≡ true
    left_apart t n =
        let lo = t.view.bounds.lo in let hi = t.view.bounds.hi in
        elim (overlap t.view.bounds cut) as (λ b.
        each_pair (are_apart level) (cond b (numbered_parts t n (remains t.view.bounds cut)) (t ∷ [])) ≡ true) [
          | true ↦ two_apart t n (is_below lo cut.lo) (is_below cut.hi hi) (span_of lo (lesser hi cut.lo)) (span_of (greater cut.hi lo) hi)
              (sides_apart t.view.bounds)
          | false ↦ refl
        ]

    -- ---- a level

    abbrev plain_tables : List TableView → Bool
    plain_tables ts = list_all (λ (t : TableView). is_plain_view t.view) ts

    apart_left : (t p : TableView) (us : List TableView) (n : ℕ) → StandsFor t p → list_all (are_apart level t) us ≡ true →
        plain_tables us ≡ true → list_all (are_apart level p) (excised_tables cut n us) ≡ true
    apart_left t p [] n is_p apart views = refl
    apart_left t p (u ∷ us) n is_p apart views =
        let next = n + length (parts_of cut u) in
        list_all-append (are_apart level p) (left_of cut n u) (excised_tables cut next us)
        ∙ (λ i.
        apart_each level t u p (left_of cut n u) is_p
        (left_stands cut cut_is u n (left (is_plain_view u.view) (plain_tables us) views))
        (left (are_apart level t u) (list_all (are_apart level t) us) apart) i
        && apart_left t p us next is_p (right (are_apart level t u) (list_all (are_apart level t) us) apart)
        (right (is_plain_view u.view) (plain_tables us) views) i)

    each_apart_left : (t : TableView) (ps us : List TableView) (n : ℕ) → AllByRecursion (StandsFor t) ps →
        list_all (are_apart level t) us ≡ true → plain_tables us ≡ true →
        list_all (λ p. list_all (are_apart level p) (excised_tables cut n us)) ps ≡ true
    each_apart_left t [] us n are apart views = refl
    each_apart_left t (p ∷ ps) us n are apart views = λ i.
        apart_left t p us n are.0 apart views i && each_apart_left t ps us n are.1 apart views i

    level_apart : (n : ℕ) (ts : List TableView) → are_all_apart level ts ≡ true → plain_tables ts ≡ true →
        are_all_apart level (excised_tables cut n ts) ≡ true
    level_apart n [] apart views = refl
    level_apart n (t ∷ ts) apart views =
        let next = n + length (parts_of cut t) in
        let later = right (is_plain_view t.view) (plain_tables ts) views in
        pairs_append (are_apart level) (left_of cut n t) (excised_tables cut next ts) (left_apart t n)
        (level_apart next ts (right (list_all (are_apart level t) ts) (are_all_apart level ts) apart) later)
        (each_apart_left t (left_of cut n t) ts next (left_stands cut cut_is t n (left (is_plain_view t.view) (plain_tables ts) views))
        (left (list_all (are_apart level t) ts) (are_all_apart level ts) apart) later)

  -- ---- all levels

  abbrev each_apart : ℕ → List (List TableView) → Bool
  each_apart k ls = list_all (λ apart. apart) (each_level are_all_apart k ls)

  abbrev each_plain : List (List TableView) → Bool
  each_plain ls = list_all (λ ts. list_all (λ (t : TableView). is_plain_view t.view) ts) ls

  levels_apart : (k n : ℕ) (ls : List (List TableView)) → each_apart k ls ≡ true → each_plain ls ≡ true →
      each_apart k (excised_levels cut n ls) ≡ true
  levels_apart k n [] apart views = refl
  levels_apart k n (ts ∷ ls) apart views =
      let here = list_all (λ (t : TableView). is_plain_view t.view) ts in
      λ i.
      level_apart k n ts (left (are_all_apart k ts) (each_apart (k + 1) ls) apart) (left here (each_plain ls) views) i
      && levels_apart (k + 1) (n + parts_count cut ts) ls (right (are_all_apart k ts) (each_apart (k + 1) ls) apart)
      (right here (each_plain ls) views) i

  -- ---- the rule

  module _ (v : VersionView) (is : IsVersion v) (first accepted : ℕ) where
    abbrev after : ℕ → List TableView → List TableView
    after = level_after v (edit v is cut first accepted)

    after_apart : list_all (λ apart. apart) (each_level (λ l ts. are_all_apart l (after l ts)) 0 v.levels) ≡ true
    after_apart =
        sym (ap (list_all (λ apart. apart)) (each_of_each are_all_apart after 0 v.levels))
        ∙ ap (each_apart 0) (all_levels_made v is cut cut_is first accepted)
        ∙ levels_apart 0 first v.levels is.apart (sym (list_all_flattened (λ (t : TableView). is_plain_view t.view) v.levels) ∙ is.views)

    -- the new tables of a level are among those that are apart afterwards
    keeps_here : (l : ℕ) (ts : List TableView) → are_all_apart l (after l ts) ≡ true →
        level_keeps_v4 v (edit v is cut first accepted) l ts ≡ true
    keeps_here l ts e =
        let new = new_tables_of_level v (edit v is cut first accepted) l in
        let stay = staying (edit v is cut first accepted) l ts in
        left (level_keeps_v4 v (edit v is cut first accepted) l ts) (are_all_apart l stay)
        (sym (pairs_all_placed (are_apart l) (apart_turned l) (comes_before l) new stay) ∙ e)

    pub all_v4 : keeps_v4 v (edit v is cut first accepted) ≡ true
    all_v4 = levels_gives (λ l ts. are_all_apart l (after l ts)) (λ l ts. are_all_apart l (after l ts))
        (level_keeps_v4 v (edit v is cut first accepted)) (λ l ts e _. keeps_here l ts e) 0 v.levels after_apart after_apart
