use Rattle.std.proofs.Common.{◌∙◌, ap, sym}
use Rattle.std.specs.Prelude.{◌==◌}
use Rattle.std.specs.List.{list_any}
use Rattle.pb_marker_world.specs.declared.records.Opening.{Opening}
use Rattle.pb_marker_world.proofs.Lists.{opening_in-reopened, opening_in-push}
use Rattle.pb_marker_world.proofs.edits.reopen.Goals as goal

pub returns-then-is_reopened-clause-ok : goal.returns-then-is_reopened-clause-ok
returns-then-is_reopened-clause-ok c = λ t.
    rw c.reopen_all.ensures
    (opening_in-reopened c.args.store c.args.opening c.args.openings.now.items
    (ap (list_any (λ (o : Opening). o.store == c.args.store)) (sym c.as_slice.ensures.value)
    ∙ (sym c.is_reopened.ensures ∙ c.if-is_reopened.true)) t)

pub returns-clause-ok : goal.returns-clause-ok
returns-clause-ok c = λ t.
    rw c.in_ok-push.ensures.items
    (opening_in-push c.args.store c.args.opening c.args.openings.now.items
    (ap (list_any (λ (o : Opening). o.store == c.args.store)) (sym c.as_slice.ensures.value)
    ∙ (sym c.is_reopened.ensures ∙ c.if-is_reopened.false)) t)
