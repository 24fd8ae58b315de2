use Rattle.std.specs.declared.cmp.Ordering.TheVariants.{Less, Equal, Greater}
use Rattle.pb_keys.specs.KeyLaws.{bytes_cmp_exact}
use Rattle.pb_span_cases.proofs.SignFacts.{compared, is_less, only_case, shared_is}
use Rattle.pb_span_cases.specs.declared.relations.Rel.TheVariants as rels
use Rattle.pb_span_cases.proofs.relations.relation.Goals as goal

pub returns-in-Less-clause-only : goal.returns-in-Less-clause-only
returns-in-Less-clause-only c =
    let front = compared Less c.hi.result.now c.lo.result.now c.args.a.now.hi c.args.b.now.lo c.in-Less.ensures c.hi.ensures.value c.lo.ensures.value in
    only_case rels.Before c.args.a.now c.args.b.now c.hi.ensures.in_form c.lo.ensures.in_form (is_less c.args.a.now.hi c.args.b.now.lo front)

pub returns-in-Equal-clause-holds : goal.returns-in-Equal-clause-holds
returns-in-Equal-clause-holds c =
    bytes_cmp_exact _ _ (compared Equal c.hi.result.now c.lo.result.now c.args.a.now.hi c.args.b.now.lo c.in-Equal.ensures c.hi.ensures.value c.lo.ensures.value)

pub returns-in-Equal-clause-only : goal.returns-in-Equal-clause-only
returns-in-Equal-clause-only c =
    let front = compared Equal c.hi.result.now c.lo.result.now c.args.a.now.hi c.args.b.now.lo c.in-Equal.ensures c.hi.ensures.value c.lo.ensures.value in
    only_case rels.Meets c.args.a.now c.args.b.now c.hi.ensures.in_form c.lo.ensures.in_form (bytes_cmp_exact _ _ front)

pub returns-in-Less-cmp-clause-only : goal.returns-in-Less-cmp-clause-only
returns-in-Less-cmp-clause-only c =
    let back = compared Less c.hi-2.result.now c.lo-2.result.now c.args.b.now.hi c.args.a.now.lo c.in-Less-cmp.ensures c.hi-2.ensures.value c.lo-2.ensures.value in
    only_case rels.After c.args.a.now c.args.b.now c.hi.ensures.in_form c.lo.ensures.in_form (is_less c.args.b.now.hi c.args.a.now.lo back)

pub returns-in-Equal-cmp-clause-holds : goal.returns-in-Equal-cmp-clause-holds
returns-in-Equal-cmp-clause-holds c =
    bytes_cmp_exact _ _ (compared Equal c.hi-2.result.now c.lo-2.result.now c.args.b.now.hi c.args.a.now.lo c.in-Equal-cmp.ensures c.hi-2.ensures.value c.lo-2.ensures.value)

pub returns-in-Equal-cmp-clause-only : goal.returns-in-Equal-cmp-clause-only
returns-in-Equal-cmp-clause-only c =
    let back = compared Equal c.hi-2.result.now c.lo-2.result.now c.args.b.now.hi c.args.a.now.lo c.in-Equal-cmp.ensures c.hi-2.ensures.value c.lo-2.ensures.value in
    only_case rels.MetBy c.args.a.now c.args.b.now c.hi.ensures.in_form c.lo.ensures.in_form (bytes_cmp_exact _ _ back)

pub returns-clause-holds : goal.returns-clause-holds
returns-clause-holds c =
    let front = compared Greater c.hi.result.now c.lo.result.now c.args.a.now.hi c.args.b.now.lo c.in-Greater.ensures c.hi.ensures.value c.lo.ensures.value in
    let back = compared Greater c.hi-2.result.now c.lo-2.result.now c.args.b.now.hi c.args.a.now.lo c.in-Greater-cmp.ensures c.hi-2.ensures.value c.lo-2.ensures.value in
    let starts = compared c.cmp-3.result c.lo-3.result.now c.lo-4.result.now c.args.a.now.lo c.args.b.now.lo c.cmp-3.ensures c.lo-3.ensures.value c.lo-4.ensures.value in
    let ends = compared c.cmp-4.result c.hi-3.result.now c.hi-4.result.now c.args.a.now.hi c.args.b.now.hi c.cmp-4.ensures c.hi-3.ensures.value c.hi-4.ensures.value in
    shared_is c.shared.result c.args.a.now c.args.b.now c.cmp-3.result c.cmp-4.result front back starts ends c.shared.ensures

pub returns-clause-only : goal.returns-clause-only
returns-clause-only c =
    only_case c.shared.result c.args.a.now c.args.b.now c.hi.ensures.in_form c.lo.ensures.in_form (returns-clause-holds c)
