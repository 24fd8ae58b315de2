use Rattle.std.proofs.Common.{◌≡◌, ◌∙◌, sym, ap, subst, arith, Some, ◌<◌, length}
use Rattle.pb_keys.specs.Span.{IsSpan, span_of}
use Rattle.pb_rows.proofs.HullLaws.{hull_of_dels_is, dels_are_span}
use Rattle.pb_rows.proofs.hull.hull_of_dels.Goals as goal

pub between-requires : goal.between-requires
between-requires c =
    let some : 0 < length c.args.dels.now = grind arith in
    let ends : span_of c.lo.result.now c.hi.result.now ≡ span_of c.index-dels-0.result.lo c.index-dels-dels.result.hi = λ i. span_of (c.lo.ensures.value i) (c.hi.ensures.value i) in
    subst IsSpan (sym ends) (dels_are_span c.args.dels.now c.index-dels-0.result c.index-dels-dels.result c.requires.spans c.requires.apart some c.index-dels-0.is c.index-dels-dels.is)

pub returns : goal.returns
returns c =
    let some : 0 < length c.args.dels.now = grind arith in
    record {
      ok = ap Some (c.in_ok-hull.ensures.ok ∙ (λ i. span_of (c.lo.ensures.value i) (c.hi.ensures.value i)))
          ∙ sym (hull_of_dels_is c.args.dels.now c.index-dels-0.result c.index-dels-dels.result c.requires.spans c.requires.apart some c.index-dels-0.is c.index-dels-dels.is);
    }
