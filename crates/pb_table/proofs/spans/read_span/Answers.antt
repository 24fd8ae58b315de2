use Rattle.std.proofs.Common.{ap, Ok}
use Rattle.pb_table.proofs.ItemLemmas.{behind_lo, span_is}
use Rattle.pb_table.proofs.spans.read_span.Goals as goal

pub returns-in_default-split_field-clause-none : goal.returns-in_default-split_field-clause-none
returns-in_default-split_field-clause-none c = λ span rest is spelled.
    c.in_default-split_field.ensures.none span.hi rest
    (behind_lo c.args.from.now c.in-Some.lo.now c.in-Some.rest.now c.in-Some.ensures.found c.in-Some.ensures.short span rest is spelled).1

pub returns-in_default-2-clause-none : goal.returns-in_default-2-clause-none
returns-in_default-2-clause-none c = λ span rest is spelled.
    c.in_ok-span.ensures.none.0 (ap Ok c.in_default-2.is)
    (span_is c.args.from.now c.in-Some.lo.now c.in-Some.rest.now c.in-Some.ensures.found c.in-Some.ensures.short
    c.in-Some-split_field.hi.now c.in-Some-split_field.rest.now c.in-Some-split_field.ensures.found c.in-Some-split_field.ensures.short span rest is spelled)
