-- What a view shows of a layer in form is in form, and all of the layer within its hull.
use Rattle.std.proofs.Common.{◌≡◌, ℕ, ◌+◌, ◌<◌, List, [], ◌∷◌, ◌++◌, length, get_or, true, false, cond, refl, sym, ap, ◌∙◌, arith}
use Rattle.std.specs.Prelude.{Some, All, map, filter}
use Rattle.std.specs.List.{AllPairs, flat_map}
use Rattle.std.specs.declared.cmp.Ordering.{Ordering}
use Rattle.std.specs.declared.cmp.Ordering.TheVariants.{Less, Equal, Greater}
use Rattle.std.specs.Ordering.{is_lt, ordering_reverse}
use Rattle.std.specs.Cmp.{tied_itself}
use Rattle.std.specs.Cmp.Lexicographic.{nat_list_cmp_total}
use Rattle.std.proofs.lemmas.List.{get_or-map, length-map}
use Rattle.std.proofs.lemmas.List.Elements.{All-cons, All-head, All-tail, All-nil, All-map, All-filter}
use Rattle.std.proofs.lemmas.List.Kept.{AllPairs-filter}
use Rattle.pb_keys.specs.Key.{IsKey, key_cmp, prefix_of}
use Rattle.pb_keys.specs.KeyLaws.{key_cmp_total, key_cmp_exact}
use Rattle.pb_keys.specs.Order.{bytes_cmp, is_below}
use Rattle.pb_keys.specs.Span.{KeySpan, IsSpan, holds_key}
use Rattle.pb_keys.specs.View.{KeyView, IsView, IsMapping}
use Rattle.pb_keys.proofs.KeyFacts.{prefixes_ascend}
use Rattle.pb_keys.proofs.OrderFacts.{bytes_cmp-behind}
use Rattle.pb_rows.specs.Hull.{hull_of, span_at}
use Rattle.pb_rows.specs.Layer.{KeyRow, KeyLayer, IsLayer, IsBelow, Rise, AreApart, IsShortRow, layer_of}
use Rattle.pb_rows.specs.Viewed.{with_suffix, mapped_key, mapped_row, mapped_span, bounded, viewed, plain_view, part_within, MapsWithin}
use Rattle.pb_rows.proofs.HullHolds.{LiesWithin, hull_holds, within_holds, holds_at}
use Rattle.pb_rows.proofs.LookLaws.{rows_rise}
use Rattle.pb_rows.proofs.MappedLaws.{prefix_of-mapped_key, given_suffix, below-behind, key_cmp-behind, key_cmp-one_suffix}
use Rattle.pb_rows.proofs.Parts.{whole_part, parts_in_form, apart_within}
use Rattle.pb_rows.proofs.ViewLaws.{mapped-plain_view}

-- ---- bounds alone

pub plain_view_keeps : (bounds : KeySpan) (layer : KeyLayer) → IsLayer layer → MapsWithin (plain_view bounds) layer
plain_view_keeps bounds layer of = record {
  keys = of.keys;
  ends = of.spans;
  apart = λ i j d h k same.
      let less : key_cmp (get_or layer.rows i d).key (get_or layer.rows j d).key ≡ Less = rows_rise layer.rows of.rise i j d h k in
      let tied : key_cmp (get_or layer.rows i d).key (get_or layer.rows j d).key ≡ Equal = ap (key_cmp (get_or layer.rows i d).key) (sym same) ∙ tied_itself key_cmp_total (get_or layer.rows i d).key in
      cc;
}

-- ---- rows

pairs_rise : (rows : List KeyRow) → AllPairs IsBelow rows → Rise rows
pairs_rise rows pairs k d h = pairs k (k + 1) d (omega arith) h

-- keys of one suffix, of which the first is lower but not the same when mapped
below_if_not_same : (o : Ordering) (a b : List ℕ) → key_cmp a b ≡ o → (a ≡ b → ⊥) → (o ≡ Greater → ⊥) → key_cmp a b ≡ Less
below_if_not_same Less a b is differ upto = is
below_if_not_same Equal a b is differ upto = absurd (differ (key_cmp_exact a b is))
below_if_not_same Greater a b is differ upto = absurd (upto refl)

never_greater : (p q : List ℕ) → is_below q p ≡ false → bytes_cmp p q ≡ Greater → ⊥
never_greater p q upto e = let below : is_below q p ≡ true = ap is_lt (nat_list_cmp_total.antisymm q p ∙ ap ordering_reverse e) in cc

keys_below : (view : KeyView) (suffix a b : List ℕ) → IsMapping view → view.suffix ≡ suffix → key_cmp a b ≡ Less → (mapped_key view a ≡ mapped_key view b → ⊥) → key_cmp (mapped_key view a) (mapped_key view b) ≡ Less
keys_below view [] a b is none less differ =
    ap (λ s. key_cmp (view.prefix ++ with_suffix s a) (view.prefix ++ with_suffix s b)) none ∙ key_cmp-behind view.prefix a b is.prefix.plain ∙ less
keys_below view (c ∷ cs) a b is given less differ =
    let some : view.suffix ≡ [] → ⊥ = λ none. cc in
    let order : key_cmp (mapped_key view a) (mapped_key view b) ≡ bytes_cmp (prefix_of a) (prefix_of b) =
    key_cmp-one_suffix (mapped_key view a) (mapped_key view b) (view.prefix ++ prefix_of a) (view.prefix ++ prefix_of b) view.suffix
    (prefix_of-mapped_key view a is) (prefix_of-mapped_key view b is) (given_suffix view a is some) (given_suffix view b is some)
    ∙ bytes_cmp-behind view.prefix (prefix_of a) (prefix_of b) in
    below_if_not_same (bytes_cmp (prefix_of a) (prefix_of b)) (mapped_key view a) (mapped_key view b) order differ (never_greater (prefix_of a) (prefix_of b) (prefixes_ascend a b less))

mapped_rise : (view : KeyView) (rows : List KeyRow) → IsMapping view → Rise rows → AllPairs (λ r s. mapped_key view r.key ≡ mapped_key view s.key → ⊥) rows → AllPairs IsBelow (map (mapped_row view) rows)
mapped_rise view rows is rise apart i j d h k =
    let within : j < length rows = omega (arith, length-map rows (mapped_row view)) in
    let first = get_or-map (mapped_row view) rows i d d (omega arith) in
    let second = get_or-map (mapped_row view) rows j d d within in
    (λ t. key_cmp (first t).key (second t).key)
    ∙ keys_below view view.suffix (get_or rows i d).key (get_or rows j d).key is refl (rows_rise rows rise i j d h within) (apart i j d h within)

-- ---- deletions

mapped_apart : (view : KeyView) (spans : List KeySpan) → AreApart spans → AreApart (map (mapped_span view) spans)
mapped_apart view spans apart k d h =
    let within : k + 1 < length spans = omega (arith, length-map spans (mapped_span view)) in
    let first = get_or-map (mapped_span view) spans k d d (omega arith) in
    let second = get_or-map (mapped_span view) spans (k + 1) d d within in
    (λ t. is_below (first t).hi (second t).lo) ∙ below-behind view.prefix (get_or spans k d).hi (get_or spans (k + 1) d).lo ∙ apart k d within

-- ---- both

pub viewed_is_layer : (view : KeyView) (layer : KeyLayer) → IsView view → IsLayer layer → MapsWithin view layer → IsLayer (viewed view layer)
unfolding viewed
viewed_is_layer view layer is of within =
    let dels = map (mapped_span view) layer.dels in
    let rows = map (mapped_row view) layer.rows in
    let held = λ (row : KeyRow). holds_key view.bounds row.key in
    let are = All-map IsSpan (mapped_span view) layer.dels within.ends in
    record {
      spans = parts_in_form view.bounds dels (λ some. is.bounds) are;
      apart = apart_within view.bounds dels (λ some. is.bounds) are (mapped_apart view layer.dels of.apart);
      keys = All-filter held (λ row. IsKey row.key) rows (All-map (λ row. IsKey row.key) (mapped_row view) layer.rows within.keys);
      rise = pairs_rise (filter held rows) (AllPairs-filter IsBelow held rows (mapped_rise view layer.rows is.mapping of.rise within.apart));
      short = All-filter held IsShortRow rows (All-map IsShortRow (mapped_row view) layer.rows of.short);
    }

-- ---- within the hull

front : {X : Type 0} (P : X → Type 0) (xs ys : List X) → All P (xs ++ ys) → All P xs
front P [] ys all = All-nil P
front P (x ∷ xs) ys all = All-cons P x xs (All-head P x (xs ++ ys) all) (front P xs ys (All-tail P x (xs ++ ys) all))

back : {X : Type 0} (P : X → Type 0) (xs ys : List X) → All P (xs ++ ys) → All P ys
back P [] ys all = all
back P (x ∷ xs) ys all = back P xs ys (All-tail P x (xs ++ ys) all)

spans_whole : (hull : KeySpan) (spans : List KeySpan) → All IsSpan spans → All (LiesWithin hull) spans → flat_map (part_within hull) spans ≡ spans
spans_whole hull [] are within = refl
spans_whole hull (s ∷ ss) are within =
    let here = All-head (LiesWithin hull) s ss within in
    λ i. whole_part hull s (All-head IsSpan s ss are) here.lo here.hi i ++ spans_whole hull ss (All-tail IsSpan s ss are) (All-tail (LiesWithin hull) s ss within) i

rows_whole : (hull : KeySpan) (rows : List KeyRow) → All (LiesWithin hull) (map span_at rows) → filter (λ row. holds_key hull row.key) rows ≡ rows
rows_whole hull [] within = refl
rows_whole hull (row ∷ rows) within =
    let held = within_holds hull (span_at row) row.key (All-head (LiesWithin hull) (span_at row) (map span_at rows) within) (holds_at row) in
    let rest = rows_whole hull rows (All-tail (LiesWithin hull) (span_at row) (map span_at rows) within) in
    λ i. cond (held i) (row ∷ rest i) (rest i)

pub whole_through_hull : (layer : KeyLayer) (hull : KeySpan) → IsLayer layer → hull_of layer ≡ Some hull → viewed (plain_view hull) layer ≡ layer
unfolding viewed hull_of
whole_through_hull layer hull of is =
    let all = hull_holds (layer.dels ++ map span_at layer.rows) hull is in
    ap (bounded hull) (mapped-plain_view hull layer)
    ∙ (λ i. layer_of
    (spans_whole hull layer.dels of.spans (front (LiesWithin hull) layer.dels (map span_at layer.rows) all) i)
    (rows_whole hull layer.rows (back (LiesWithin hull) layer.dels (map span_at layer.rows) all) i))
