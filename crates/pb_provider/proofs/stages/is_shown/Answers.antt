use Rattle.std.proofs.Common.{◌≡◌, ◌+◌, ◌∷◌, [], true, drop, sym, ap, ◌∙◌, arith}
use Rattle.std.specs.List.{list_any}
use Rattle.std.proofs.lemmas.List.{drop_all}
use Rattle.pb_provider.proofs.StageLemmas.{level_first, shown_all, shown_here, shown_later, shows}
use Rattle.pb_provider.proofs.stages.is_shown.Goals as goal

pub returns-then-is_shown_on : goal.returns-then-is_shown_on
returns-then-is_shown_on c =
    let levels = c.args.version.now.levels in
    let tables = c.tables.result.now in
    let first = level_first levels c.loop-level.level tables (omega (arith, c.loop-level-test.true, c.tables.ensures.in_form.levels)) c.tables.ensures.value in
    sym (shown_all c.args.number levels ∙ shown_here c.args.number levels c.loop-level.level tables c.loop-level.invariant first (sym c.is_shown_on.ensures ∙ c.if-is_shown_on.true))

pub loop-level-preserved : goal.loop-level-preserved
loop-level-preserved c =
    let levels = c.args.version.now.levels in
    let tables = c.tables.result.now in
    let first = level_first levels c.loop-level.level tables (omega (arith, c.loop-level-test.true, c.tables.ensures.in_form.levels)) c.tables.ensures.value in
    shown_later c.args.number levels c.loop-level.level tables c.loop-level.invariant first (sym c.is_shown_on.ensures ∙ c.if-is_shown_on.false)

pub returns : goal.returns
returns c =
    let levels = c.args.version.now.levels in
    let left : drop c.loop-level.level levels ≡ [] = drop_all c.loop-level.level levels (omega (arith, c.loop-level-test.false, c.five-five.ensures.in_form.levels)) in
    sym (shown_all c.args.number levels ∙ sym c.loop-level.invariant ∙ ap (list_any (λ ts. list_any (shows c.args.number) ts)) left)
