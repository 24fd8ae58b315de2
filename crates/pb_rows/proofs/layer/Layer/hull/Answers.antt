use Rattle.std.proofs.Common.{◌∙◌, sym, ap, map}
use Rattle.pb_rows.specs.Hull.{either_hull, hull_of_spans, hull_of, span_at}
use Rattle.pb_rows.proofs.HullLaws.{hull_of_spans-append}
use Rattle.pb_rows.proofs.layer.Layer.hull.Goals as goal

pub returns : goal.returns
unfolding hull_of
returns c = record {
  ok =
      c.in_ok-hull.ensures.ok
      ∙ (λ i. either_hull ((c.in_ok-dels.ensures.ok ∙ ap hull_of_spans c.as_slice.ensures.value) i) ((c.in_ok-rows.ensures.ok ∙ ap (λ rows. hull_of_spans (map span_at rows)) c.as_slice-2.ensures.value) i))
      ∙ sym (hull_of_spans-append c.self.inside.dels.items (map span_at c.self.inside.rows.items))
      ∙ ap hull_of c.self.view_is;
}
