-- A layer in front of an end, and from it on: in form, and what bounds show of it.
use Rattle.std.proofs.Common.{◌≡◌, ℕ, ◌<◌, List, ◌++◌, length, get_or, Bool, true, sym, ap, ◌∙◌, subst, arith}
use Rattle.std.specs.Prelude.{All, Some, filter, map, not}
use Rattle.std.specs.List.{flat_map}
use Rattle.std.proofs.lemmas.List.{get_or-map, length-map}
use Rattle.std.proofs.lemmas.List.Elements.{All-contains, All-filter, Contains-append_left, Contains-append_right, Contains-get_or}
use Rattle.pb_keys.specs.Key.{IsKey}
use Rattle.pb_keys.specs.Order.{is_below}
use Rattle.pb_keys.specs.Span.{KeySpan, IsEnd, span_of}
use Rattle.pb_rows.specs.Hull.{hull_of, span_at}
use Rattle.pb_rows.specs.Layer.{KeyRow, KeyLayer, IsLayer, IsShortRow, layer_of}
use Rattle.pb_rows.specs.Viewed.{bounded, viewed, plain_view}
use Rattle.pb_rows.proofs.HullHolds.{LiesWithin, hull_holds}
use Rattle.pb_rows.proofs.NormalSpans.{Normal, normal_from_apart, spans_from_normal, apart_from_normal}
use Rattle.pb_rows.proofs.RowsOver.{rising_from_rise, rise_from_rising, rising-filter}
use Rattle.pb_rows.proofs.ViewLaws.{mapped-plain_view}
use Rattle.pb_compact.specs.Cutting.{is_row_below, part_below, part_from, layer_below, layer_from}
use Rattle.pb_compact.proofs.RowsCut.{all_from, rows_between, rows_from_later}
use Rattle.pb_compact.proofs.SpansCut.{from_start, normal_below, normal_from, spans_between, spans_from_later}

pub layer_between : (lo hi : List ℕ) (layer : KeyLayer) → is_below lo hi ≡ true
    → layer_below hi (layer_from lo layer) ≡ viewed (plain_view (span_of lo hi)) layer
unfolding viewed
layer_between lo hi layer rises =
    (λ i. layer_of (spans_between lo hi layer.dels rises i) (rows_between lo hi layer.rows i))
    ∙ ap (bounded (span_of lo hi)) (sym (mapped-plain_view (span_of lo hi) layer))

pub layer_from_later : (lo hi : List ℕ) (layer : KeyLayer) → is_below lo hi ≡ true
    → layer_from hi (layer_from lo layer) ≡ layer_from hi layer
layer_from_later lo hi layer rises = λ i. layer_of (spans_from_later lo hi layer.dels rises i) (rows_from_later lo hi layer.rows rises i)

-- ---- in form

pub some_rows : (p : KeyRow → Bool) (dels : List KeySpan) (layer : KeyLayer) → Normal dels → IsLayer layer
    → IsLayer (layer_of dels (filter p layer.rows))
some_rows p dels layer normal of = record {
  spans = spans_from_normal dels normal;
  apart = apart_from_normal dels normal;
  keys = All-filter p (λ row. IsKey row.key) layer.rows of.keys;
  rise = rise_from_rising (filter p layer.rows) (rising-filter p layer.rows (rising_from_rise layer.rows of.rise));
  short = All-filter p IsShortRow layer.rows of.short;
}

pub below_is_layer : (end : List ℕ) (layer : KeyLayer) → IsEnd end → IsLayer layer → IsLayer (layer_below end layer)
below_is_layer end layer is of =
    some_rows (is_row_below end) (flat_map (part_below end) layer.dels) layer
    (normal_below end layer.dels is (normal_from_apart layer.dels of.spans of.apart)) of

pub from_is_layer : (end : List ℕ) (layer : KeyLayer) → IsEnd end → IsLayer layer → IsLayer (layer_from end layer)
from_is_layer end layer is of =
    some_rows (λ row. not (is_row_below end row)) (flat_map (part_from end) layer.dels) layer
    (normal_from end layer.dels is (normal_from_apart layer.dels of.spans of.apart)) of

-- ---- from the hull's start on it is whole

pub dels_within : (layer : KeyLayer) (hull : KeySpan) → hull_of layer ≡ Some hull → All (LiesWithin hull) layer.dels
unfolding hull_of
dels_within layer hull is k d h =
    All-contains (LiesWithin hull) (layer.dels ++ map span_at layer.rows) (get_or layer.dels k d)
    (hull_holds (layer.dels ++ map span_at layer.rows) hull is)
    (Contains-append_left layer.dels (map span_at layer.rows) (get_or layer.dels k d) (Contains-get_or layer.dels k d h))

pub rows_within : (layer : KeyLayer) (hull : KeySpan) → hull_of layer ≡ Some hull → All (λ row. LiesWithin hull (span_at row)) layer.rows
unfolding hull_of
rows_within layer hull is k d h =
    let spans = map span_at layer.rows in
    let inside : k < length spans = omega (arith, h, length-map layer.rows span_at) in
    subst (LiesWithin hull) (get_or-map span_at layer.rows k d (span_at d) h)
    (All-contains (LiesWithin hull) (layer.dels ++ spans) (get_or spans k (span_at d)) (hull_holds (layer.dels ++ spans) hull is)
    (Contains-append_right layer.dels spans (get_or spans k (span_at d)) (Contains-get_or spans k (span_at d) inside)))

pub whole_from : (layer : KeyLayer) (hull : KeySpan) → IsLayer layer → hull_of layer ≡ Some hull → layer_from hull.lo layer ≡ layer
whole_from layer hull of is = λ i. layer_of
    (from_start hull.lo layer.dels (normal_from_apart layer.dels of.spans of.apart) (λ k d h. (dels_within layer hull is k d h).lo) i)
    (all_from hull.lo layer.rows (λ k d h. (rows_within layer hull is k d h).lo) i)
