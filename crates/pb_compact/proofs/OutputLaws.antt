-- What the outputs of a layer say, and that they are layers whose hulls rise.
use Rattle.std.proofs.Common.{◌≡◌, ℕ, ◌<◌, List, [], ◌∷◌, ◌++◌, length, get_or, map, true, false, cond, refl, sym, ap, ◌∙◌, subst, arith, inl}
use Rattle.std.specs.Prelude.{All, Some, None, not, ◌≢◌}
use Rattle.std.specs.List.{AllPairs}
use Rattle.std.proofs.lemmas.Bool.{and_right, not-true}
use Rattle.std.proofs.lemmas.Option.{same_Some}
use Rattle.std.proofs.lemmas.List.{get_or-map, length-map}
use Rattle.std.proofs.lemmas.List.Elements.{All-cons, All-map, All-nil}
use Rattle.pb_keys.specs.Key.{at_sign}
use Rattle.pb_keys.specs.Order.{is_below}
use Rattle.pb_keys.specs.Span.{KeySpan, span_of, holds_key}
use Rattle.pb_keys.proofs.OrderFacts.{upto_chain}
use Rattle.pb_keys.proofs.SpanFacts.{overlap-ends}
use Rattle.pb_rows.specs.Hull.{hull_of, HullsApart, HaveSameLayers}
use Rattle.pb_rows.specs.Layer.{KeyLayer, IsLayer}
use Rattle.pb_rows.specs.Verdict.{verdict, verdicts}
use Rattle.pb_rows.specs.Viewed.{plain_view, viewed}
use Rattle.pb_rows.proofs.ApartLayers.{same_members_say}
use Rattle.pb_rows.proofs.HullHolds.{cut_hull_within, silent_outside}
use Rattle.pb_rows.proofs.HullLaws.{no_hull}
use Rattle.pb_rows.proofs.ViewedForm.{plain_view_keeps, viewed_is_layer}
use Rattle.pb_compact.specs.Laws.{HullsRise, HasHullWithin}
use Rattle.pb_compact.specs.Outputs.{bounds_within, cut_points, outputs_of, spans_to}
use Rattle.pb_compact.proofs.Bounds.{AreSpans, bounds_are_spans}
use Rattle.pb_compact.proofs.BoundsLaws.{all_spans, last_end-append, spans_rise, spans_say}

-- ---- by the hull, if there is one

-- what holds of the outputs within each hull, and of none, holds of the layer's outputs
pub by_hull : (P : List KeyLayer → Type 0) (layer : KeyLayer) → (hull_of layer ≡ None → P [])
    → ((hull : KeySpan) → hull_of layer ≡ Some hull → P (map (λ bounds. viewed (plain_view bounds) layer)
    (spans_to hull.lo (cut_points layer.rows ++ hull.hi ∷ []))))
    → P (outputs_of layer)
by_hull P layer none some =
    elim (hull_of layer) as (λ h. hull_of layer ≡ h → P
    (map (λ bounds. viewed (plain_view bounds) layer) (bounds_within (cut_points layer.rows) h))) [
      | None ↦ λ e. none e
      | Some hull ↦ λ e. some hull e
    ] refl

-- ---- what they say

silent_empty : (layer : KeyLayer) (key : List ℕ) → hull_of layer ≡ None → None ≡ verdict layer key
unfolding verdict
silent_empty layer key none = ap (λ l. verdict l key) (sym ((no_hull layer).0 none))

pub outputs_say : (layer : KeyLayer) (key : List ℕ) → IsLayer layer → verdicts (outputs_of layer) key ≡ verdict layer key
outputs_say layer key of =
    by_hull (λ outputs. verdicts outputs key ≡ verdict layer key) layer (silent_empty layer key) (λ hull is.
    let ends = cut_points layer.rows ++ hull.hi ∷ [] in
    spans_say layer key hull.lo ends (bounds_are_spans layer hull of is)
    ∙ ap (λ top. cond (holds_key (span_of hull.lo top) key) (verdict layer key) None)
    (last_end-append hull.lo hull.hi (cut_points layer.rows))
    ∙ elim (holds_key hull key) as (λ b. holds_key hull key ≡ b → cond b (verdict layer key) None ≡ verdict layer key) [
      | true ↦ λ e. refl
      | false ↦ λ e. sym (silent_outside layer hull key is e)
    ] refl)

-- ---- their hulls

upto_from : (a b : List ℕ) → is_below b a ≡ false → not (is_below b a) ≡ true
upto_from a b h = ap not h

hulls_rise : (layer : KeyLayer) (s t : KeySpan) → is_below t.lo s.hi ≡ false
    → HullsRise (viewed (plain_view s) layer) (viewed (plain_view t) layer)
hulls_rise layer s t rises g h first second =
    let low = cut_hull_within s layer g first in
    let high = cut_hull_within t layer h second in
    upto_from g.hi h.lo (upto_chain g.hi t.lo h.lo (upto_chain g.hi s.hi t.lo low.hi rises) high.lo)

pub outputs_rise : (layer : KeyLayer) → IsLayer layer → AllPairs HullsRise (outputs_of layer)
outputs_rise layer of =
    by_hull (AllPairs HullsRise) layer (λ none i j d h k. absurd (omega arith)) (λ hull is i j d h k.
    let ends = cut_points layer.rows ++ hull.hi ∷ [] in
    let bounds = spans_to hull.lo ends in
    let shown = λ (b : KeySpan). viewed (plain_view b) layer in
    let inside : j < length bounds = omega (arith, k, length-map bounds shown) in
    let before : i < length bounds = omega (arith, h, inside) in
    subst (λ (l : KeyLayer). HullsRise l (get_or (map shown bounds) j d)) (sym (get_or-map shown bounds i hull d before))
    (subst (HullsRise (shown (get_or bounds i hull))) (sym (get_or-map shown bounds j hull d inside))
    (hulls_rise layer (get_or bounds i hull) (get_or bounds j hull)
    (spans_rise hull.lo ends (bounds_are_spans layer hull of is) i j hull h inside))))

rising_are_apart : (a b : KeyLayer) → HullsRise a b → HullsApart a b
rising_are_apart a b rise g h first second =
    overlap-ends g h ∙ and_right (is_below g.lo h.hi) (is_below h.lo g.hi) (not-true (is_below h.lo g.hi) (rise g h first second))

pub outputs_are_apart : (layer : KeyLayer) → IsLayer layer → AllPairs HullsApart (outputs_of layer)
outputs_are_apart layer of i j d h k = rising_are_apart _ _ (outputs_rise layer of i j d h k)

pub others_say : (layer : KeyLayer) (others : List KeyLayer) (key : List ℕ) → IsLayer layer → HaveSameLayers (outputs_of layer) others
    → verdicts others key ≡ verdict layer key
others_say layer others key of same =
    sym (same_members_say (outputs_of layer) others same (outputs_are_apart layer of) key) ∙ outputs_say layer key of

pub outputs_lie_within : (layer : KeyLayer) (hull : KeySpan) → IsLayer layer → hull_of layer ≡ Some hull
    → All (HasHullWithin hull) (outputs_of layer)
outputs_lie_within layer hull of is =
    by_hull (All (HasHullWithin hull)) layer (λ none. All-nil (HasHullWithin hull)) (λ own has.
    let same : own ≡ hull = same_Some own hull (sym has ∙ is) in
    let ends = cut_points layer.rows ++ own.hi ∷ [] in
    let shown = λ (b : KeySpan). viewed (plain_view b) layer in
    All-map (HasHullWithin hull) shown (spans_to own.lo ends)
    (all_spans (λ s. HasHullWithin hull (shown s)) own.lo ends (bounds_are_spans layer own of has) (λ s from upto rises. record {
      lo = λ h e. upto_from hull.lo h.lo
          (upto_chain hull.lo s.lo h.lo (subst (λ (o : KeySpan). is_below s.lo o.lo ≡ false) same from) (cut_hull_within s layer h e).lo);
      hi = λ h e. upto_from h.hi hull.hi (upto_chain h.hi s.hi hull.hi (cut_hull_within s layer h e).hi
          (subst (λ (o : KeySpan). is_below o.hi s.hi ≡ false) same
          (sym (ap (λ top. is_below top s.hi) (last_end-append own.lo own.hi (cut_points layer.rows))) ∙ upto)));
    })))

-- ---- in form

in_form : (layer : KeyLayer) (lo : List ℕ) (ends : List (List ℕ)) → IsLayer layer → AreSpans lo ends
    → All IsLayer (map (λ bounds. viewed (plain_view bounds) layer) (spans_to lo ends))
in_form layer lo [] of are = All-nil IsLayer
in_form layer lo (hi ∷ ends) of are =
    let shown = λ (b : KeySpan). viewed (plain_view b) layer in
    All-cons IsLayer (shown (span_of lo hi)) (map shown (spans_to hi ends))
    (viewed_is_layer (plain_view (span_of lo hi)) layer (record {
      mapping = record { prefix = record { within = omega arith; plain = All-nil (λ (b : ℕ). b ≢ at_sign) }; suffix = inl refl };
      bounds = are.0;
    }) of (plain_view_keeps (span_of lo hi) layer of))
    (in_form layer hi ends of are.1)

pub outputs_are_layers : (layer : KeyLayer) → IsLayer layer → All IsLayer (outputs_of layer)
outputs_are_layers layer of =
    by_hull (All IsLayer) layer (λ none. All-nil IsLayer)
    (λ hull is. in_form layer hull.lo (cut_points layer.rows ++ hull.hi ∷ []) of (bounds_are_spans layer hull of is))
