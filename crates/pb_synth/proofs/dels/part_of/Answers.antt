use Rattle.std.proofs.Common.{sym, ap, ◌∙◌, ◌++◌, subst}
use Rattle.pb_keys.specs.Order.{lesser, greater}
use Rattle.pb_keys.specs.Span.{IsSpan, span_of}
use Rattle.pb_synth.proofs.ShownLaws.{part_is_span}
use Rattle.pb_synth.proofs.dels.part_of.Goals as goal

pub between-requires : goal.between-requires
between-requires c =
    let prefix = c.as_slice-prefix.ensures ∙ ap (λ v. v.prefix) c.view.view_is in
    let lo = c.deref.ensures.value ∙ c.in_ok-lo.ensures.ok ∙ (λ i. greater ((c.lo-2.ensures.value ∙ ap (λ v. v.bounds.lo) c.view.view_is) i) (prefix i ++ c.lo.ensures.value i)) in
    let hi = c.deref-2.ensures.value ∙ c.in_ok-hi.ensures.ok ∙ (λ i. lesser ((c.hi-2.ensures.value ∙ ap (λ v. v.bounds.hi) c.view.view_is) i) (prefix i ++ c.hi.ensures.value i)) in
    subst IsSpan (λ i. span_of (sym lo i) (sym hi i)) (part_is_span c.args.view.now c.args.del.now c.requires.view c.requires.mapped c.requires.overlap)
