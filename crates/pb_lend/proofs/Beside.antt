-- What is lent lies within the span, so it is apart from all that stands beside the span.
use Rattle.std.proofs.Common.{◌≡◌, ℕ, List, [], ◌∷◌, Bool, true, false, cond, refl, ap, sym, ◌∙◌, inl, inr}
use Rattle.std.proofs.lemmas.Bool.{and_parts, and_from, and_left, and_right}
use Rattle.std.proofs.lemmas.List.Elements.{All-nil, All-cons, All-head, All-tail, All-append, All-contains, All-weaker}
use Rattle.std.specs.Prelude.{◌⊎◌, not, ◌&&◌, ◌||◌, ◌==◌, map, All, Contains}
use Rattle.std.specs.List.{filter, list_all}
use Rattle.pb_keys.specs.Order.{is_below, lesser, greater}
use Rattle.pb_keys.specs.Span.{KeySpan, span_of, overlap}
use Rattle.pb_keys.proofs.EndFacts.{below-lesser}
use Rattle.pb_keys.proofs.OrderFacts.{below_itself, below_chain, upto_below}
use Rattle.pb_keys.proofs.SpanFacts.{overlap-ends, overlap_turns}
use Rattle.pb_keys.proofs.Tests.{both_below, both_below_first}
use Rattle.pb_span_cases.specs.Remainder.{remains}
use Rattle.pb_version.specs.Version.{TableView, VersionView, tables_of_level}
use Rattle.pb_version.specs.Above.{IsNewest, IsClear, MayStand, AddsAbove}
use Rattle.pb_version.specs.Rules.{are_apart, are_all_apart}
use Rattle.pb_version.proofs.Pairs.{and_crossed}
use Rattle.pb_lend.specs.Lent.{cut_view, cut_table, lent_of, lent_of_level}
use Rattle.pb_lend.specs.Received.{StandsBeside, IsWithoutSpan, IsLentTo, AddsBundle}
use Rattle.pb_lend.proofs.CutViews.{each_lent}

-- ---- where spans overlap

pub greater-below : (a b c : List ℕ) → is_below (greater a b) c ≡ (is_below a c && is_below b c)
greater-below a b c =
    elim (is_below a b) as (λ t. is_below a b ≡ t → is_below (cond t b a) c ≡ (is_below a c && is_below b c)) [
      | true ↦ λ e. both_below (is_below a c) (is_below b c) (λ h. below_chain a b c e h)
      | false ↦ λ e. both_below_first (is_below a c) (is_below b c) (λ h. upto_below b a c e h)
    ] refl

-- two and two, taken the other way
-- what is cut overlaps what both overlap
overlap-cut : (t : TableView) (span other : KeySpan) →
    overlap (cut_view t.view span).bounds other ≡ (overlap t.view.bounds other && overlap span other)
overlap-cut t span other =
    let whole = t.view.bounds in
    overlap-ends (cut_view t.view span).bounds other
    ∙ (λ i. greater-below whole.lo span.lo other.hi i && below-lesser other.lo whole.hi span.hi i)
    ∙ and_crossed (is_below whole.lo other.hi) (is_below span.lo other.hi) (is_below other.lo whole.hi) (is_below other.lo span.hi)
    ∙ (λ i. sym (overlap-ends whole other) i && sym (overlap-ends span other) i)

beside_cut : (t : TableView) (span other : KeySpan) → overlap span other ≡ false → overlap (cut_view t.view span).bounds other ≡ false
beside_cut t span other beside =
    overlap-cut t span other ∙ and_right (overlap t.view.bounds other) (overlap span other) beside

-- what didn't overlap doesn't when cut
cut_apart : (t u : TableView) (span : KeySpan) → overlap t.view.bounds u.view.bounds ≡ false →
    overlap (cut_view t.view span).bounds (cut_view u.view span).bounds ≡ false
cut_apart t u span apart =
    let cut = (cut_view u.view span).bounds in
    overlap-cut t span cut
    ∙ and_left (overlap t.view.bounds cut) (overlap span cut)
    (overlap_turns t.view.bounds cut
    ∙ overlap-cut u span t.view.bounds
    ∙ and_left (overlap u.view.bounds t.view.bounds) (overlap span t.view.bounds) (overlap_turns u.view.bounds t.view.bounds ∙ apart))

-- ---- the tables of a level

module _ (level : ℕ) (span : KeySpan) where
  or_not : (ranks both less : Bool) → (both ≡ false → less ≡ false) → (ranks || not both) ≡ true → (ranks || not less) ≡ true
  or_not true both less h e = refl
  or_not false true less h e = cc
  or_not false false less h e = ap not (h refl)

  lent_pair : (t u : TableView) → are_apart level t u ≡ true → are_apart level (cut_table span t) (cut_table span u) ≡ true
  lent_pair t u apart =
      or_not (level == 0 && not (t.rank == u.rank)) (overlap t.view.bounds u.view.bounds)
      (overlap (cut_view t.view span).bounds (cut_view u.view span).bounds) (cut_apart t u span) apart

  one_apart : (t : TableView) (us : List TableView) → list_all (are_apart level t) us ≡ true →
      list_all (are_apart level (cut_table span t)) (lent_of span us) ≡ true
  one_apart t [] apart = refl
  one_apart t (u ∷ us) apart =
      let both = and_parts (are_apart level t u) (list_all (are_apart level t) us) apart in
      let others = filter (λ (w : TableView). overlap w.view.bounds span) us in
      elim (overlap u.view.bounds span)
      as (λ b. list_all (are_apart level (cut_table span t)) (map (cut_table span) (cond b (u ∷ others) others)) ≡ true) [
        | true ↦ and_from (are_apart level (cut_table span t) (cut_table span u))
            (list_all (are_apart level (cut_table span t)) (map (cut_table span) others)) (lent_pair t u both.0) (one_apart t us both.1)
        | false ↦ one_apart t us both.1
      ]

  pub all_apart : (ts : List TableView) → are_all_apart level ts ≡ true → are_all_apart level (lent_of span ts) ≡ true
  all_apart [] apart = refl
  all_apart (t ∷ ts) apart =
      let both = and_parts (list_all (are_apart level t) ts) (are_all_apart level ts) apart in
      let others = filter (λ (w : TableView). overlap w.view.bounds span) ts in
      elim (overlap t.view.bounds span) as (λ b. are_all_apart level (map (cut_table span) (cond b (t ∷ others) others)) ≡ true) [
        | true ↦ and_from (list_all (are_apart level (cut_table span t)) (map (cut_table span) others))
            (are_all_apart level (map (cut_table span) others)) (one_apart t ts both.0) (all_apart ts both.1)
        | false ↦ all_apart ts both.1
      ]

-- ---- what stands beside the span

-- what an excise leaves doesn't overlap what it took
parts_beside : (whole span : KeySpan) → All (λ part. overlap span part ≡ false) (remains whole span)
parts_beside whole span =
    let Beside = λ (part : KeySpan). overlap span part ≡ false in
    let front = span_of whole.lo (lesser whole.hi span.lo) in
    let behind = span_of (greater span.hi whole.lo) whole.hi in
    All-append Beside (cond (is_below whole.lo span.lo) (front ∷ []) []) (cond (is_below span.hi whole.hi) (behind ∷ []) [])
    (one (is_below whole.lo span.lo) front (overlap-ends span front
    ∙ and_left (is_below span.lo front.hi) (is_below front.lo span.hi)
    (below-lesser span.lo whole.hi span.lo ∙ and_right (is_below span.lo whole.hi) (is_below span.lo span.lo) (below_itself span.lo))))
    (one (is_below span.hi whole.hi) behind (overlap-ends span behind
    ∙ and_right (is_below span.lo behind.hi) (is_below behind.lo span.hi)
    (greater-below span.hi whole.lo span.hi ∙ and_left (is_below span.hi span.hi) (is_below whole.lo span.hi) (below_itself span.hi))))
  where
    one : (b : Bool) (part : KeySpan) → overlap span part ≡ false → All (λ part. overlap span part ≡ false) (cond b (part ∷ []) [])
    one true part beside = All-cons (λ part. overlap span part ≡ false) part [] beside (All-nil (λ part. overlap span part ≡ false))
    one false part beside = All-nil (λ part. overlap span part ≡ false)

stands_beside : (span : KeySpan) (u : TableView) → StandsBeside span u → overlap span u.view.bounds ≡ false
stands_beside span u stands =
    elim stands [
      | inl beside ↦ overlap_turns span u.view.bounds ∙ beside
      | inr part ↦ All-contains (λ bounds. overlap span bounds ≡ false) (remains part.0 span) u.view.bounds
          (parts_beside part.0 span) part.1
    ]

pub lent_beside : (level : ℕ) (span : KeySpan) (ts others : List TableView) → All (StandsBeside span) others →
    list_all (λ t. list_all (are_apart level t) others) (lent_of span ts) ≡ true
lent_beside level span [] others beside = refl
lent_beside level span (t ∷ ts) others beside =
    let lent = filter (λ (w : TableView). overlap w.view.bounds span) ts in
    elim (overlap t.view.bounds span)
    as (λ b. list_all (λ t. list_all (are_apart level t) others) (map (cut_table span) (cond b (t ∷ lent) lent)) ≡ true) [
      | true ↦ and_from (list_all (are_apart level (cut_table span t)) others)
          (list_all (λ t. list_all (are_apart level t) others) (map (cut_table span) lent)) (from_all others beside)
          (lent_beside level span ts others beside)
      | false ↦ lent_beside level span ts others beside
    ]
  where
    or_apart : (ranks both : Bool) → both ≡ false → (ranks || not both) ≡ true
    or_apart true both h = refl
    or_apart false both h = ap not h

    from_all : (us : List TableView) → All (StandsBeside span) us → list_all (are_apart level (cut_table span t)) us ≡ true
    from_all [] stand = refl
    from_all (u ∷ us) stand =
        and_from (are_apart level (cut_table span t) u) (list_all (are_apart level (cut_table span t)) us)
        (or_apart (level == 0 && not (t.rank == u.rank)) (overlap (cut_view t.view span).bounds u.view.bounds)
        (beside_cut t span u.view.bounds (stands_beside span u (All-head (StandsBeside span) u us stand))))
        (from_all us (All-tail (StandsBeside span) u us stand))

pub lent_beside_parts : (v : VersionView) (level : ℕ) (span whole : KeySpan) →
    All (λ t. All (λ part. overlap t.view.bounds part ≡ false) (remains whole span)) (lent_of_level v level span)
lent_beside_parts v level span whole =
    each_lent (λ t. All (λ part. overlap t.view.bounds part ≡ false) (remains whole span)) span
    (λ t. All-weaker (λ part. overlap span part ≡ false) (λ part. overlap (cut_view t.view span).bounds part ≡ false)
    (beside_cut t span) (remains whole span) (parts_beside whole span))
    (tables_of_level v level)

-- ---- nothing is added above

module _ (lender old new : VersionView) (span : KeySpan) (without : IsWithoutSpan old span) (adds : AddsBundle lender span old new) where
  lent_clear : (level : ℕ) (t u : TableView) → IsLentTo lender span level t → StandsBeside span u →
      overlap t.view.bounds u.view.bounds ≡ false
  lent_clear level t u lent stands =
      ap (λ view. overlap view.bounds u.view.bounds) lent.view
      ∙ All-contains (λ w. overlap w.view.bounds u.view.bounds ≡ false) (lent_of_level lender level span) lent.table
      (each_lent (λ w. overlap w.view.bounds u.view.bounds ≡ false) span
      (λ w. beside_cut w span u.view.bounds (stands_beside span u stands)) (tables_of_level lender level))
      lent.lent

  is_clear : (level : ℕ) (t : TableView) → IsLentTo lender span level t → IsClear old new level t
  is_clear level t lent = record {
    deeper = lent.deeper;
    clear = λ above within.
        All-weaker (StandsBeside span) (λ u. Contains (tables_of_level new above) u → overlap t.view.bounds u.view.bounds ≡ false)
        (λ u stands has. lent_clear level t u lent stands) (tables_of_level old above) (without.each above);
  }

  may_stand : (level : ℕ) (t : TableView) → Contains (tables_of_level old level) t ⊎ IsNewest old level t ⊎ IsLentTo lender span level t →
      MayStand old new level t
  may_stand level t stands =
      elim stands [
        | inl stood ↦ inl stood
        | inr other ↦ elim other [
          | inl newest ↦ inr (inr (inl newest))
          | inr lent ↦ inr (inr (inr (is_clear level t lent)))
        ]
      ]

  pub bundle_above : AddsAbove old new
  bundle_above = record {
    each = λ level.
        All-weaker (λ t. Contains (tables_of_level old level) t ⊎ IsNewest old level t ⊎ IsLentTo lender span level t)
        (MayStand old new level)
        (may_stand level) (tables_of_level new level) (adds.each level);
  }
