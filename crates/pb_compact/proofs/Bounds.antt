-- The bounds of outputs are spans, each beginning where the one before ends.
use Rattle.std.proofs.Common.{◌≡◌, ℕ, ◌+◌, List, [], ◌∷◌, ◌++◌, get_or, true, false, cond, refl, ap, ◌∙◌}
use Rattle.std.specs.Prelude.{All, Some, not}
use Rattle.std.proofs.lemmas.Bool.{and_parts}
use Rattle.std.proofs.lemmas.List.Elements.{All-head, All-tail}
use Rattle.pb_keys.specs.Key.{IsKey, prefix_of}
use Rattle.pb_keys.specs.Order.{is_below, end_above}
use Rattle.pb_keys.specs.Span.{KeySpan, IsEnd, IsSpan, span_of}
use Rattle.pb_keys.proofs.KeyFacts.{prefix_is_end, prefixes_ascend}
use Rattle.pb_keys.proofs.OrderFacts.{below_itself, below-end_above, below_upto, upto_below, upto_chain}
use Rattle.pb_rows.specs.Hull.{hull_of, span_at}
use Rattle.pb_rows.specs.Layer.{KeyRow, KeyLayer, IsLayer}
use Rattle.pb_rows.proofs.HullHolds.{LiesWithin, hull_is_span}
use Rattle.pb_rows.proofs.RowsOver.{Follow, Rising, rising_from_rise}
use Rattle.pb_compact.specs.Outputs.{is_point, row_size, points_behind, cut_points}
use Rattle.pb_compact.proofs.LayersCut.{rows_within}

-- from a start to the first end, from there to the second, and so on, each is a span
abbrev pub AreSpans : List ℕ → List (List ℕ) → Type 0
AreSpans lo [] = Unit {0}
AreSpans lo (hi ∷ ends) = IsSpan (span_of lo hi) × AreSpans hi ends

-- a prefix between a start and a top, from which rows go on
pub record Between (lo last top : List ℕ) : Type 0 where
  pub start : IsEnd lo
  pub end : IsEnd top
  pub from : is_below last lo ≡ false
  pub upto : is_below last top ≡ true

-- each row's prefix is at this one or behind it, and below the top
pub record Goes (last top : List ℕ) (row : KeyRow) : Type 0 where
  pub key : IsKey row.key
  pub from : is_below (prefix_of row.key) last ≡ false
  pub upto : is_below (prefix_of row.key) top ≡ true

pub goes_on : (last top : List ℕ) (row : KeyRow) (rows : List KeyRow) → Follow row.key rows → All (Goes last top) rows
    → All (Goes (prefix_of row.key) top) rows
goes_on last top row rows follow goes k d h = record {
  key = (goes k d h).key;
  from = prefixes_ascend row.key (get_or rows k d).key (follow k d h);
  upto = (goes k d h).upto;
}

points_are_spans : (sum : ℕ) (lo last top : List ℕ) (rows : List KeyRow) → Between lo last top → Rising rows → All (Goes last top) rows
    → AreSpans lo (points_behind sum last rows ++ top ∷ [])
points_are_spans sum lo last top [] is rising goes = (
  record { lo = is.start; hi = is.end; rises = upto_below lo last top is.from is.upto },
  tt,
)
points_are_spans sum lo last top (row ∷ rows) is rising goes =
    let first = All-head (Goes last top) row rows goes in
    let later = goes_on last top row rows rising.0 (All-tail (Goes last top) row rows goes) in
    let prefix = prefix_of row.key in
    let end : IsEnd prefix = prefix_is_end row.key first.key in
    let cut = prefix ∷ points_behind (row_size row) prefix rows in
    let on = points_behind (sum + row_size row) prefix rows in
    elim (is_point sum last prefix) as (λ b. is_point sum last prefix ≡ b → AreSpans lo (cond b cut on ++ top ∷ [])) [
      | true ↦ λ e. (
        record { lo = is.start; hi = end; rises = upto_below lo last prefix is.from (and_parts _ _ e).1 },
        points_are_spans (row_size row) prefix prefix top rows
            (record { start = end; end = is.end; from = below_itself prefix; upto = first.upto }) rising.1 later,
      )
      | false ↦ λ e. points_are_spans (sum + row_size row) lo prefix top rows
          (record { start = is.start; end = is.end; from = upto_chain lo last prefix is.from first.from; upto = first.upto }) rising.1 later
    ] refl

pub row_upto : (hull : KeySpan) (row : KeyRow) → LiesWithin hull (span_at row) → is_below (prefix_of row.key) hull.hi ≡ true
row_upto hull row within =
    let prefix = prefix_of row.key in
    below_upto prefix (end_above prefix) hull.hi (below-end_above prefix prefix ∙ ap not (below_itself prefix)) within.hi

-- the rows behind a first one
pub rows_go : (hull : KeySpan) (row : KeyRow) (rows : List KeyRow) → Follow row.key rows → All (λ r. IsKey r.key) rows
    → All (λ r. LiesWithin hull (span_at r)) rows → All (Goes (prefix_of row.key) hull.hi) rows
rows_go hull row rows follow keys within k d h = record {
  key = keys k d h;
  from = prefixes_ascend row.key (get_or rows k d).key (follow k d h);
  upto = row_upto hull (get_or rows k d) (within k d h);
}

-- before the first row there is no point
from_first : (hull : KeySpan) (rows : List KeyRow) → IsSpan hull → Rising rows → All (λ row. IsKey row.key) rows
    → All (λ row. LiesWithin hull (span_at row)) rows → AreSpans hull.lo (cut_points rows ++ hull.hi ∷ [])
from_first hull [] is rising keys within = (is, tt)
from_first hull (row ∷ rows) is rising keys within =
    let P = λ (r : KeyRow). LiesWithin hull (span_at r) in
    let here = All-head P row rows within in
    let rest = All-tail P row rows within in
    points_are_spans (0 + row_size row) hull.lo (prefix_of row.key) hull.hi rows
    (record { start = is.lo; end = is.hi; from = here.lo; upto = row_upto hull row here }) rising.1
    (rows_go hull row rows rising.0 (All-tail (λ r. IsKey r.key) row rows keys) rest)

pub bounds_are_spans : (layer : KeyLayer) (hull : KeySpan) → IsLayer layer → hull_of layer ≡ Some hull
    → AreSpans hull.lo (cut_points layer.rows ++ hull.hi ∷ [])
bounds_are_spans layer hull of is =
    from_first hull layer.rows (hull_is_span layer hull of is) (rising_from_rise layer.rows of.rise) of.keys (rows_within layer hull is)
