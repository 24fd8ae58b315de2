use Rattle.std.proofs.Common.{◌≡◌, ◌∙◌, sym, subst}
use Rattle.pb_keys.specs.Order.{lesser, greater}
use Rattle.pb_keys.specs.Span.{IsSpan, span_of, joined}
use Rattle.pb_keys.proofs.SpanFacts.{joined_is_span}
use Rattle.pb_keys.proofs.span.Span.joined.Goals as goal

pub between-requires : goal.between-requires
between-requires c =
    let ends : span_of c.lesser_of-lo.result.now c.greater_of-hi.result.now ≡ joined c.args.a.now c.args.b.now = λ i. span_of
    ((c.lesser_of-lo.ensures ∙ (λ j. lesser (c.lo.ensures.value j) (c.lo-2.ensures.value j))) i)
    ((c.greater_of-hi.ensures ∙ (λ j. greater (c.hi.ensures.value j) (c.hi-2.ensures.value j))) i) in
    subst IsSpan (sym ends) (joined_is_span c.args.a.now c.args.b.now c.lo.ensures.in_form c.lo-2.ensures.in_form)
