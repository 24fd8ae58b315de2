use Rattle.std.proofs.Common.{◌≡◌, ◌∙◌, sym, ap, subst, arith, Some, ◌<◌, length}
use Rattle.pb_keys.specs.Key.{prefix_of}
use Rattle.pb_keys.specs.Order.{end_above}
use Rattle.pb_keys.specs.Span.{IsSpan, span_of}
use Rattle.pb_rows.proofs.HullLaws.{hull_of_rows_is, rows_are_span}
use Rattle.pb_rows.proofs.hull.hull_of_rows.Goals as goal

pub between-requires : goal.between-requires
between-requires c =
    let some : 0 < length c.args.rows.now = grind arith in
    let start : c.prefix-2.result.now ≡ prefix_of c.index-rows-0.result.key = c.prefix-2.ensures.value ∙ ap (λ r. prefix_of r.key) c.first.view_is in
    let end : c.as_slice.result.now ≡ end_above (prefix_of c.index-rows-rows.result.key) =
    c.as_slice.ensures.value ∙ c.in_ok-push.ensures.items
    ∙ ap end_above (c.in_ok-end.ensures.items ∙ c.prefix.ensures.value ∙ ap (λ r. prefix_of r.key) c.last.view_is) in
    subst IsSpan (λ i. span_of (sym start i) (sym end i)) (rows_are_span c.args.rows.now c.index-rows-0.result c.index-rows-rows.result c.requires.keys c.requires.rise some c.index-rows-0.is c.index-rows-rows.is)

pub returns : goal.returns
returns c =
    let some : 0 < length c.args.rows.now = grind arith in
    let start : c.prefix-2.result.now ≡ prefix_of c.index-rows-0.result.key = c.prefix-2.ensures.value ∙ ap (λ r. prefix_of r.key) c.first.view_is in
    let end : c.as_slice.result.now ≡ end_above (prefix_of c.index-rows-rows.result.key) =
    c.as_slice.ensures.value ∙ c.in_ok-push.ensures.items
    ∙ ap end_above (c.in_ok-end.ensures.items ∙ c.prefix.ensures.value ∙ ap (λ r. prefix_of r.key) c.last.view_is) in
    record {
      ok = ap Some (c.in_ok-hull.ensures.ok ∙ (λ i. span_of (start i) (end i)))
          ∙ sym (hull_of_rows_is c.args.rows.now c.index-rows-0.result c.index-rows-rows.result c.requires.rise some c.index-rows-0.is c.index-rows-rows.is);
    }
