-- A layer lies within its hull: nothing is said outside, and all of it is seen through it.
use Rattle.std.proofs.Common.{◌≡◌, ℕ, List, [], ◌∷◌, ◌++◌, Bool, true, false, cond, refl, sym, ap, ◌∙◌, subst}
use Rattle.std.specs.Prelude.{Some, None, map, filter, All, not, ◌&&◌, ◌||◌}
use Rattle.std.specs.List.{flat_map}
use Rattle.std.specs.Option.{option_or}
use Rattle.std.specs.Ordering.{eq_by_cmp}
use Rattle.std.proofs.lemmas.List.Elements.{All-cons, All-head, All-tail, All-nil, All-weaker, All-append, All-map}
use Rattle.std.proofs.lemmas.List.Folds.{list_any-append}
use Rattle.pb_keys.specs.Order.{is_below, lesser, greater}
use Rattle.pb_keys.specs.Key.{IsKey, key_cmp, prefix_of}
use Rattle.pb_keys.specs.Span.{KeySpan, IsSpan, span_of, joined, holds_key, overlap}
use Rattle.pb_keys.proofs.KeyFacts.{prefixes_are_span}
use Rattle.pb_keys.proofs.OrderFacts.{below_itself, below_upto, upto_chain, below-end_above}
use Rattle.pb_keys.proofs.SpanFacts.{holds_key-ends, lesser_upto, upto_greater, joined_is_span, held_from, held_to}
use Rattle.pb_rows.specs.Hull.{span_at, either_hull, hull_of_spans, hull_of}
use Rattle.pb_rows.specs.Layer.{KeyRow, KeyLayer, IsLayer}
use Rattle.pb_rows.specs.Verdict.{row_verdict, is_covered, verdict}
use Rattle.pb_rows.specs.Viewed.{viewed, plain_view, bounded, part_within}
use Rattle.pb_rows.proofs.Bits.{neither}
use Rattle.pb_rows.proofs.HullLaws.{no_spans}
use Rattle.pb_rows.proofs.RowLaws.{same_key}
use Rattle.pb_rows.proofs.ViewLaws.{mapped-plain_view, verdict-plain_view}

-- the span begins no lower than the hull, and ends no higher
pub record LiesWithin (hull span : KeySpan) : Type 0 where
  pub lo : is_below span.lo hull.lo ≡ false
  pub hi : is_below hull.hi span.hi ≡ false

lesser_second : (a b : List ℕ) → is_below b (lesser a b) ≡ false
lesser_second a b =
    elim (is_below b a) as (λ t. is_below b a ≡ t → is_below b (cond t b a) ≡ false) [
      | true ↦ λ e. below_itself b
      | false ↦ λ e. e
    ] refl

greater_second : (a b : List ℕ) → is_below (greater a b) b ≡ false
greater_second a b =
    elim (is_below a b) as (λ t. is_below a b ≡ t → is_below (cond t b a) b ≡ false) [
      | true ↦ λ e. below_itself b
      | false ↦ λ e. e
    ] refl

within_itself : (s : KeySpan) → LiesWithin s s
within_itself s = record { lo = below_itself s.lo; hi = below_itself s.hi }

within_chain : (a b c : KeySpan) → LiesWithin a b → LiesWithin b c → LiesWithin a c
within_chain a b c outer inner = record { lo = upto_chain a.lo b.lo c.lo outer.lo inner.lo; hi = upto_chain c.hi b.hi a.hi inner.hi outer.hi }

first_within : (s t : KeySpan) → LiesWithin (joined s t) s
first_within s t = record { lo = lesser_upto s.lo t.lo; hi = upto_greater s.hi t.hi }

second_within : (s t : KeySpan) → LiesWithin (joined s t) t
second_within s t = record { lo = lesser_second s.lo t.lo; hi = greater_second s.hi t.hi }

joined_within : (bounds s t : KeySpan) → LiesWithin bounds s → LiesWithin bounds t → LiesWithin bounds (joined s t)
joined_within bounds s t is_s is_t = record {
  lo = elim (is_below t.lo s.lo) as (λ b. is_below (cond b t.lo s.lo) bounds.lo ≡ false) [ true ↦ is_t.lo | false ↦ is_s.lo ];
  hi = elim (is_below s.hi t.hi) as (λ b. is_below bounds.hi (cond b t.hi s.hi) ≡ false) [ true ↦ is_t.hi | false ↦ is_s.hi ];
}

-- each of the spans lies within their hull
pub hull_holds : (spans : List KeySpan) (hull : KeySpan) → hull_of_spans spans ≡ Some hull → All (LiesWithin hull) spans
hull_holds [] hull is = cc
hull_holds (s ∷ ss) hull is =
    elim (hull_of_spans ss) as (λ o. hull_of_spans ss ≡ o → either_hull (Some s) o ≡ Some hull → All (LiesWithin hull) (s ∷ ss)) [
      | None ↦ λ rest e.
          let same : s ≡ hull = cc in
          subst (λ h. All (LiesWithin h) (s ∷ ss)) same
          (subst (λ ts. All (LiesWithin s) (s ∷ ts)) (sym (no_spans ss rest)) (All-cons (LiesWithin s) s [] (within_itself s) (All-nil (LiesWithin s))))
      | Some t ↦ λ rest e.
          let same : joined s t ≡ hull = cc in
          subst (λ h. All (LiesWithin h) (s ∷ ss)) same
          (All-cons (LiesWithin (joined s t)) s ss (first_within s t)
          (All-weaker (LiesWithin t) (LiesWithin (joined s t)) (λ u inner. within_chain (joined s t) t u (second_within s t) inner) ss (hull_holds ss t rest)))
    ] refl is

-- what holds of each span, and of two joined, holds of the hull
pub hull_keeps : (P : KeySpan → Type 0) → ((s t : KeySpan) → P s → P t → P (joined s t)) → (spans : List KeySpan) (hull : KeySpan) → All P spans → hull_of_spans spans ≡ Some hull → P hull
hull_keeps P join [] hull are is = cc
hull_keeps P join (s ∷ ss) hull are is =
    elim (hull_of_spans ss) as (λ o. hull_of_spans ss ≡ o → either_hull (Some s) o ≡ Some hull → P hull) [
      | None ↦ λ rest e. let same : s ≡ hull = cc in subst P same (All-head P s ss are)
      | Some t ↦ λ rest e.
          let same : joined s t ≡ hull = cc in
          subst P same (join s t (All-head P s ss are) (hull_keeps P join ss t (All-tail P s ss are) rest))
    ] refl is

-- ---- nothing is said outside

both_parts : (a b : Bool) → a ≡ false → b ≡ true → (not a && b) ≡ true
both_parts true b h k = cc
both_parts false b h k = k

pub holds_between : (s : KeySpan) (key : List ℕ) → is_below (prefix_of key) s.lo ≡ false → is_below (prefix_of key) s.hi ≡ true → holds_key s key ≡ true
holds_between s key from to = holds_key-ends s key ∙ both_parts (is_below (prefix_of key) s.lo) (is_below (prefix_of key) s.hi) from to

-- a span holds what one within it holds
pub within_holds : (hull s : KeySpan) (key : List ℕ) → LiesWithin hull s → holds_key s key ≡ true → holds_key hull key ≡ true
within_holds hull s key within h =
    holds_between hull key (upto_chain hull.lo s.lo (prefix_of key) within.lo (held_from s key h)) (below_upto (prefix_of key) s.hi hull.hi (held_to s key h) within.hi)

-- the span at a row holds the row's key
pub holds_at : (row : KeyRow) → holds_key (span_at row) row.key ≡ true
holds_at row =
    let p = prefix_of row.key in
    holds_between (span_at row) row.key (below_itself p) (below-end_above p p ∙ ap not (below_itself p))

none_held : (hull : KeySpan) (spans : List KeySpan) (key : List ℕ) → All (LiesWithin hull) spans → holds_key hull key ≡ false → is_covered spans key ≡ false
none_held hull [] key within outside = refl
none_held hull (s ∷ ss) key within outside =
    elim (holds_key s key) as (λ b. holds_key s key ≡ b → (b || is_covered ss key) ≡ false) [
      | true ↦ λ e. let held = within_holds hull s key (All-head (LiesWithin hull) s ss within) e in cc
      | false ↦ λ e. none_held hull ss key (All-tail (LiesWithin hull) s ss within) outside
    ] refl

no_row_held : (rows : List KeyRow) (key : List ℕ) → is_covered (map span_at rows) key ≡ false → row_verdict rows key ≡ None
no_row_held [] key none = refl
no_row_held (row ∷ rows) key none =
    elim (eq_by_cmp key_cmp key row.key) as (λ t. eq_by_cmp key_cmp key row.key ≡ t → cond t (Some row.value) (row_verdict rows key) ≡ None) [
      | true ↦ λ e.
          let held : holds_key (span_at row) key ≡ true = ap (holds_key (span_at row)) (same_key key row.key e) ∙ holds_at row in
          let some : true ≡ false = ap (λ b. b || is_covered (map span_at rows) key) (sym held) ∙ none in
          cc
      | false ↦ λ e. no_row_held rows key (later (holds_key (span_at row) key) (is_covered (map span_at rows) key) none)
    ] refl
  where
    later : (a b : Bool) → (a || b) ≡ false → b ≡ false
    later true b h = cc
    later false b h = h

pub silent_outside : (layer : KeyLayer) (hull : KeySpan) (key : List ℕ) → hull_of layer ≡ Some hull → holds_key hull key ≡ false → verdict layer key ≡ None
unfolding hull_of verdict
silent_outside layer hull key is outside =
    let spans = layer.dels ++ map span_at layer.rows in
    let none = none_held hull spans key (hull_holds spans hull is) outside in
    let parts = neither (is_covered layer.dels key) (is_covered (map span_at layer.rows) key) (sym (list_any-append (λ span. holds_key span key) layer.dels (map span_at layer.rows)) ∙ none) in
    λ i. option_or (no_row_held layer.rows key parts.second i) (cond (parts.first i) (Some None) None)

pub shown_within : (layer : KeyLayer) (hull : KeySpan) (key : List ℕ) → hull_of layer ≡ Some hull → verdict (viewed (plain_view hull) layer) key ≡ verdict layer key
shown_within layer hull key is =
    verdict-plain_view hull layer key
    ∙ elim (holds_key hull key) as (λ b. holds_key hull key ≡ b → cond b (verdict layer key) None ≡ verdict layer key) [
      | true ↦ λ e. refl
      | false ↦ λ e. sym (silent_outside layer hull key is e)
    ] refl

-- ---- the hull of a layer in form is a span

spans_at_rows : (rows : List KeyRow) → All (λ row. IsKey row.key) rows → All IsSpan (map span_at rows)
spans_at_rows rows are = All-map IsSpan span_at rows (All-weaker (λ row. IsKey row.key) (λ row. IsSpan (span_at row)) (λ row is. prefixes_are_span row.key row.key is is (below_itself (prefix_of row.key))) rows are)

pub hull_is_span : (layer : KeyLayer) (hull : KeySpan) → IsLayer layer → hull_of layer ≡ Some hull → IsSpan hull
unfolding hull_of
hull_is_span layer hull of is =
    hull_keeps IsSpan joined_is_span (layer.dels ++ map span_at layer.rows) hull (All-append IsSpan layer.dels (map span_at layer.rows) of.spans (spans_at_rows layer.rows of.keys)) is

-- ---- the hull of what bounds show lies within them

part_lies : (bounds span : KeySpan) → LiesWithin bounds (span_of (greater bounds.lo span.lo) (lesser bounds.hi span.hi))
part_lies bounds span = record { lo = upto_greater bounds.lo span.lo; hi = lesser_upto bounds.hi span.hi }

parts_lie : (bounds : KeySpan) (spans : List KeySpan) → All (LiesWithin bounds) (flat_map (part_within bounds) spans)
parts_lie bounds [] = All-nil (LiesWithin bounds)
parts_lie bounds (s ∷ ss) =
    let part = span_of (greater bounds.lo s.lo) (lesser bounds.hi s.hi) in
    elim (overlap bounds s) as (λ b. All (LiesWithin bounds) (cond b (part ∷ []) [] ++ flat_map (part_within bounds) ss)) [
      | true ↦ All-cons (LiesWithin bounds) part (flat_map (part_within bounds) ss) (part_lies bounds s) (parts_lie bounds ss)
      | false ↦ parts_lie bounds ss
    ]

row_lies : (bounds : KeySpan) (row : KeyRow) → holds_key bounds row.key ≡ true → LiesWithin bounds (span_at row)
row_lies bounds row held = record {
  lo = held_from bounds row.key held;
  hi = below-end_above bounds.hi (prefix_of row.key) ∙ ap not (held_to bounds row.key held);
}

rows_lie : (bounds : KeySpan) (rows : List KeyRow) → All (LiesWithin bounds) (map span_at (filter (λ row. holds_key bounds row.key) rows))
rows_lie bounds [] = All-nil (LiesWithin bounds)
rows_lie bounds (row ∷ rows) =
    let kept = filter (λ r. holds_key bounds r.key) rows in
    elim (holds_key bounds row.key) as (λ b. holds_key bounds row.key ≡ b → All (LiesWithin bounds) (map span_at (cond b (row ∷ kept) kept))) [
      | true ↦ λ e. All-cons (LiesWithin bounds) (span_at row) (map span_at kept) (row_lies bounds row e) (rows_lie bounds rows)
      | false ↦ λ e. rows_lie bounds rows
    ] refl

pub bounded_hull_within : (bounds : KeySpan) (layer : KeyLayer) (hull : KeySpan) → hull_of (bounded bounds layer) ≡ Some hull → LiesWithin bounds hull
unfolding hull_of
bounded_hull_within bounds layer hull is =
    let dels = flat_map (part_within bounds) layer.dels in
    let rows = filter (λ row. holds_key bounds row.key) layer.rows in
    hull_keeps (LiesWithin bounds) (joined_within bounds) (dels ++ map span_at rows) hull (All-append (LiesWithin bounds) dels (map span_at rows) (parts_lie bounds layer.dels) (rows_lie bounds layer.rows)) is

pub cut_hull_within : (bounds : KeySpan) (layer : KeyLayer) (hull : KeySpan) → hull_of (viewed (plain_view bounds) layer) ≡ Some hull → LiesWithin bounds hull
unfolding viewed
cut_hull_within bounds layer hull is = bounded_hull_within bounds layer hull (ap (λ l. hull_of (bounded bounds l)) (sym (mapped-plain_view bounds layer)) ∙ is)
