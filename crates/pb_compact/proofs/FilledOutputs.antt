-- Each output has a row or a deletion: from each point on there is the row that made it.
use Rattle.std.proofs.Common.{◌≡◌, ℕ, ◌+◌, ◌<◌, List, [], ◌∷◌, ◌++◌, length, true, false, cond, refl, sym, ◌∙◌, subst, arith, inl, inr}
use Rattle.std.specs.Prelude.{All, Contains, Option, Some, None, filter}
use Rattle.std.proofs.lemmas.Bool.{and_parts}
use Rattle.std.proofs.lemmas.List.Elements.{All-cons, All-contains_itself, All-head, All-map, All-nil, All-tail}
use Rattle.pb_keys.specs.Key.{IsKey, prefix_of}
use Rattle.pb_keys.specs.Order.{is_below}
use Rattle.pb_keys.specs.Span.{KeySpan, span_of, holds_key}
use Rattle.pb_keys.proofs.OrderFacts.{below_itself, upto_below, upto_chain}
use Rattle.pb_rows.specs.Hull.{hull_of, span_at}
use Rattle.pb_rows.specs.Layer.{KeyRow, KeyLayer, IsLayer, IsFilled}
use Rattle.pb_rows.specs.Viewed.{bounded, plain_view, viewed}
use Rattle.pb_rows.proofs.FilledLaws.{filled_or_empty}
use Rattle.pb_rows.proofs.HullHolds.{LiesWithin, holds_between}
use Rattle.pb_rows.proofs.HullLaws.{no_hull}
use Rattle.pb_rows.proofs.RowsOver.{Rising, rising_from_rise}
use Rattle.pb_rows.proofs.ViewLaws.{mapped-plain_view}
use Rattle.pb_rows.proofs.ViewedForm.{whole_through_hull}
use Rattle.pb_compact.specs.Outputs.{is_point, row_size, points_behind, cut_points, outputs_of, spans_to}
use Rattle.pb_compact.proofs.Bounds.{Goes, goes_on, row_upto, rows_go}
use Rattle.pb_compact.proofs.LayersCut.{rows_within}
use Rattle.pb_compact.proofs.OutputLaws.{by_hull}
use Rattle.pb_compact.proofs.TogetherLaws.{passed_at}

bounded_filled : (bounds : KeySpan) (layer : KeyLayer) (row : KeyRow) → Contains layer.rows row → holds_key bounds row.key ≡ true
    → IsFilled (bounded bounds layer)
bounded_filled bounds layer row stands held =
    let has = passed_at (λ r. holds_key bounds r.key) layer.rows row stands.0 stands.1 stands.2 held in
    let within : has.0 < length (filter (λ r. holds_key bounds r.key) layer.rows) = has.1 in
    omega (arith, within)

viewed_filled : (bounds : KeySpan) (layer : KeyLayer) (row : KeyRow) → Contains layer.rows row → holds_key bounds row.key ≡ true
    → IsFilled (viewed (plain_view bounds) layer)
unfolding viewed
viewed_filled bounds layer row stands held =
    subst (λ l. IsFilled (bounded bounds l)) (sym (mapped-plain_view bounds layer)) (bounded_filled bounds layer row stands held)

-- a row of the layer between a start and a last prefix
pub record Seen (layer : KeyLayer) (lo last : List ℕ) (row : KeyRow) : Type 0 where
  pub stands : Contains layer.rows row
  pub from : is_below (prefix_of row.key) lo ≡ false
  pub upto : is_below last (prefix_of row.key) ≡ false

first_filled : (layer : KeyLayer) (lo last hi : List ℕ) (row : KeyRow) → Seen layer lo last row → is_below last hi ≡ true
    → IsFilled (viewed (plain_view (span_of lo hi)) layer)
first_filled layer lo last hi row seen rises =
    viewed_filled (span_of lo hi) layer row seen.stands
    (holds_between (span_of lo hi) row.key seen.from (upto_below (prefix_of row.key) last hi seen.upto rises))

all_filled : (layer : KeyLayer) (sum : ℕ) (lo last top : List ℕ) (seen : KeyRow) (rows : List KeyRow) → Seen layer lo last seen
    → is_below last top ≡ true → Rising rows → All (Goes last top) rows → All (Contains layer.rows) rows
    → All (λ s. IsFilled (viewed (plain_view s) layer)) (spans_to lo (points_behind sum last rows ++ top ∷ []))
all_filled layer sum lo last top seen [] is upto rising goes stand =
    let P = λ (s : KeySpan). IsFilled (viewed (plain_view s) layer) in
    All-cons P (span_of lo top) [] (first_filled layer lo last top seen is upto) (All-nil P)
all_filled layer sum lo last top seen (row ∷ rows) is upto rising goes stand =
    let P = λ (s : KeySpan). IsFilled (viewed (plain_view s) layer) in
    let first = All-head (Goes last top) row rows goes in
    let later = goes_on last top row rows rising.0 (All-tail (Goes last top) row rows goes) in
    let here = All-head (Contains layer.rows) row rows stand in
    let others = All-tail (Contains layer.rows) row rows stand in
    let prefix = prefix_of row.key in
    let cut = points_behind (row_size row) prefix rows in
    let on = points_behind (sum + row_size row) prefix rows in
    elim (is_point sum last prefix) as (λ b. is_point sum last prefix ≡ b → All P (spans_to lo (cond b (prefix ∷ cut) on ++ top ∷ []))) [
      | true ↦ λ e. All-cons P (span_of lo prefix) (spans_to prefix (cut ++ top ∷ []))
          (first_filled layer lo last prefix seen is (and_parts _ _ e).1)
          (all_filled layer (row_size row) prefix prefix top row rows
          (record { stands = here; from = below_itself prefix; upto = below_itself prefix }) first.upto rising.1 later others)
      | false ↦ λ e. all_filled layer (sum + row_size row) lo prefix top seen rows
          (record { stands = is.stands; from = is.from; upto = upto_chain (prefix_of seen.key) last prefix is.upto first.from })
          first.upto rising.1 later others
    ] refl

whole_filled : (layer : KeyLayer) (hull : KeySpan) → IsLayer layer → hull_of layer ≡ Some hull → IsFilled (viewed (plain_view hull) layer)
whole_filled layer hull of is =
    subst IsFilled (sym (whole_through_hull layer hull of is)) (elim (filled_or_empty layer) [
      | inl filled ↦ filled
      | inr empty ↦ absurd (none_and_some (sym ((no_hull layer).1 empty) ∙ is))
    ])
  where
    none_and_some : ◌≡◌ {A = Option KeySpan} None (Some hull) → ⊥
    none_and_some e = cc

from_rows : (layer : KeyLayer) (hull : KeySpan) (rows : List KeyRow) → IsLayer layer → hull_of layer ≡ Some hull → Rising rows
    → All (Contains layer.rows) rows → All (λ row. IsKey row.key) rows → All (λ row. LiesWithin hull (span_at row)) rows
    → All (λ s. IsFilled (viewed (plain_view s) layer)) (spans_to hull.lo (cut_points rows ++ hull.hi ∷ []))
from_rows layer hull [] of is rising stand keys within =
    All-cons (λ s. IsFilled (viewed (plain_view s) layer)) hull [] (whole_filled layer hull of is)
    (All-nil (λ s. IsFilled (viewed (plain_view s) layer)))
from_rows layer hull (row ∷ rows) of is rising stand keys within =
    let P = λ (r : KeyRow). LiesWithin hull (span_at r) in
    let here = All-head P row rows within in
    all_filled layer (0 + row_size row) hull.lo (prefix_of row.key) hull.hi row rows
    (record { stands = All-head (Contains layer.rows) row rows stand; from = here.lo; upto = below_itself (prefix_of row.key) })
    (row_upto hull row here) rising.1
    (rows_go hull row rows rising.0 (All-tail (λ r. IsKey r.key) row rows keys) (All-tail P row rows within))
    (All-tail (Contains layer.rows) row rows stand)

pub outputs_are_filled : (layer : KeyLayer) → IsLayer layer → All IsFilled (outputs_of layer)
outputs_are_filled layer of =
    by_hull (All IsFilled) layer (λ none. All-nil IsFilled) (λ hull is.
    All-map IsFilled (λ s. viewed (plain_view s) layer) (spans_to hull.lo (cut_points layer.rows ++ hull.hi ∷ []))
    (from_rows layer hull layer.rows of is (rising_from_rise layer.rows of.rise) (All-contains_itself layer.rows) of.keys
    (rows_within layer hull is)))
