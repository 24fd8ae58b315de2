use Rattle.std.proofs.Common.{◌∙◌, sym, refl}
use Rattle.pb_span_cases.proofs.Remainders.{parts_remain, left_in_form, right_in_form, whole_part}
use Rattle.pb_span_cases.proofs.RemainLaws.{parts_are_remains}
use Rattle.pb_span_cases.proofs.TableFacts.{names_parts}
use Rattle.pb_span_cases.proofs.remainder.minus.Goals as goal

pub returns-clause-parts : goal.returns-clause-parts
returns-clause-parts c =
    let names = names_parts c.line_of-case.result c.relation.result c.args.table.now c.args.cut.now c.relation.ensures.in_form.0 c.relation.ensures.in_form.1
    c.line_of-case.ensures.listed c.line_of-case.ensures.named c.relation.ensures.holds in
    rw (c.part.ensures, c.part-2.ensures, names.left, names.right) (parts_are_remains c.args.table.now c.args.cut.now c.relation.ensures.in_form.0 c.relation.ensures.in_form.1)

pub returns-clause-keys : goal.returns-clause-keys
returns-clause-keys c =
    let names = names_parts c.line_of-case.result c.relation.result c.args.table.now c.args.cut.now c.relation.ensures.in_form.0 c.relation.ensures.in_form.1
    c.line_of-case.ensures.listed c.line_of-case.ensures.named c.relation.ensures.holds in
    rw (c.part.ensures, c.part-2.ensures, names.left, names.right) (parts_remain c.args.table.now c.args.cut.now)

pub returns-clause-left : goal.returns-clause-left
returns-clause-left c line listed holds =
    let names = names_parts c.line_of-case.result c.relation.result c.args.table.now c.args.cut.now c.relation.ensures.in_form.0 c.relation.ensures.in_form.1
    c.line_of-case.ensures.listed c.line_of-case.ensures.named c.relation.ensures.holds in
    c.part.ensures ∙ names.left ∙ sym (names_parts line line.rel c.args.table.now c.args.cut.now c.relation.ensures.in_form.0 c.relation.ensures.in_form.1 listed refl holds).left

pub returns-clause-right : goal.returns-clause-right
returns-clause-right c line listed holds =
    let names = names_parts c.line_of-case.result c.relation.result c.args.table.now c.args.cut.now c.relation.ensures.in_form.0 c.relation.ensures.in_form.1
    c.line_of-case.ensures.listed c.line_of-case.ensures.named c.relation.ensures.holds in
    c.part-2.ensures ∙ names.right ∙ sym (names_parts line line.rel c.args.table.now c.args.cut.now c.relation.ensures.in_form.0 c.relation.ensures.in_form.1 listed refl holds).right

pub returns-clause-whole : goal.returns-clause-whole
returns-clause-whole c apart =
    let names = names_parts c.line_of-case.result c.relation.result c.args.table.now c.args.cut.now c.relation.ensures.in_form.0 c.relation.ensures.in_form.1
    c.line_of-case.ensures.listed c.line_of-case.ensures.named c.relation.ensures.holds in
    let whole = whole_part c.args.table.now c.args.cut.now apart in
    (c.part.ensures ∙ names.left ∙ whole.0, c.part-2.ensures ∙ names.right ∙ whole.1)

pub returns-clause-left_in_form : goal.returns-clause-left_in_form
returns-clause-left_in_form c =
    let names = names_parts c.line_of-case.result c.relation.result c.args.table.now c.args.cut.now c.relation.ensures.in_form.0 c.relation.ensures.in_form.1
    c.line_of-case.ensures.listed c.line_of-case.ensures.named c.relation.ensures.holds in
    rw (c.part.ensures, names.left) (left_in_form c.args.table.now c.args.cut.now c.relation.ensures.in_form.0 c.relation.ensures.in_form.1)

pub returns-clause-right_in_form : goal.returns-clause-right_in_form
returns-clause-right_in_form c =
    let names = names_parts c.line_of-case.result c.relation.result c.args.table.now c.args.cut.now c.relation.ensures.in_form.0 c.relation.ensures.in_form.1
    c.line_of-case.ensures.listed c.line_of-case.ensures.named c.relation.ensures.holds in
    rw (c.part-2.ensures, names.right) (right_in_form c.args.table.now c.args.cut.now c.relation.ensures.in_form.0 c.relation.ensures.in_form.1)
