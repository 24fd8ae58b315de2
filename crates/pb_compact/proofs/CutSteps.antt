-- A layer cut up to some end: the outputs so far, and what is left.
use Rattle.std.proofs.Common.{◌≡◌, ℕ, List, [], ◌∷◌, ◌++◌, map, sym, ap, ◌∙◌, subst, append_assoc}
use Rattle.std.specs.Prelude.{Some}
use Rattle.std.proofs.lemmas.List.{append-nil}
use Rattle.pb_keys.specs.Span.{KeySpan, IsEnd}
use Rattle.pb_rows.specs.Hull.{hull_of}
use Rattle.pb_rows.specs.Layer.{KeyLayer, IsLayer}
use Rattle.pb_rows.specs.Viewed.{plain_view, viewed}
use Rattle.pb_compact.specs.Cutting.{layer_below, layer_from}
use Rattle.pb_compact.specs.Outputs.{bounds_within, cut_points, outputs_of, spans_to}
use Rattle.pb_compact.proofs.Bounds.{AreSpans, bounds_are_spans}
use Rattle.pb_compact.proofs.LayersCut.{from_is_layer, layer_between, layer_from_later, whole_from}

-- from where the layer is left, with the ends at which it is still to be cut
pub record CutUpTo (layer left : KeyLayer) (outputs : List KeyLayer) (ends : List (List ℕ)) : Type 0 where
  pub start : List ℕ
  pub spans : AreSpans start ends
  pub left_is : left ≡ layer_from start layer
  pub whole : outputs ++ map (λ bounds. viewed (plain_view bounds) layer) (spans_to start ends) ≡ outputs_of layer
  pub in_form : IsLayer left

pub begun : (layer : KeyLayer) (hull : KeySpan) → IsLayer layer → hull_of layer ≡ Some hull
    → CutUpTo layer layer [] (cut_points layer.rows ++ hull.hi ∷ [])
begun layer hull of is = record {
  start = hull.lo;
  spans = bounds_are_spans layer hull of is;
  left_is = sym (whole_from layer hull of is);
  whole = ap (λ h. map (λ bounds. viewed (plain_view bounds) layer) (bounds_within (cut_points layer.rows) h)) (sym is);
  in_form = of;
}

pub next_end : (layer left : KeyLayer) (outputs : List KeyLayer) (hi : List ℕ) (ends : List (List ℕ))
    → CutUpTo layer left outputs (hi ∷ ends) → IsEnd hi
next_end layer left outputs hi ends cut = (cut.spans.0).hi

pub stepped : (layer left rest taken : KeyLayer) (outputs more : List KeyLayer) (hi : List ℕ) (ends : List (List ℕ))
    → CutUpTo layer left outputs (hi ∷ ends)
    → taken ≡ layer_below hi left → rest ≡ layer_from hi left → more ≡ outputs ++ taken ∷ [] → CutUpTo layer rest more ends
stepped layer left rest taken outputs more hi ends cut below from add =
    let shown = λ (bounds : KeySpan). viewed (plain_view bounds) layer in
    let rises = (cut.spans.0).rises in
    let output = below ∙ ap (layer_below hi) cut.left_is ∙ layer_between cut.start hi layer rises in
    record {
      start = hi;
      spans = cut.spans.1;
      left_is = from ∙ ap (layer_from hi) cut.left_is ∙ layer_from_later cut.start hi layer rises;
      whole = (λ i. add i ++ map shown (spans_to hi ends)) ∙ append_assoc outputs (taken ∷ []) (map shown (spans_to hi ends))
          ∙ ap (λ (l : KeyLayer). outputs ++ l ∷ map shown (spans_to hi ends)) output ∙ cut.whole;
      in_form = subst IsLayer (sym from) (from_is_layer hi left (cut.spans.0).hi cut.in_form);
    }

pub finished : (layer left : KeyLayer) (outputs : List KeyLayer) → CutUpTo layer left outputs [] → outputs ≡ outputs_of layer
finished layer left outputs cut = sym (append-nil outputs) ∙ cut.whole
