use Rattle.std.proofs.Common.{◌+◌, drop, sym, ap, ◌∙◌, arith}
use Rattle.std.specs.Prelude.{option_copied}
use Rattle.std.proofs.lemmas.List.{drop_all}
use Rattle.pb_ingest.specs.Levels.{free_levels}
use Rattle.pb_ingest.proofs.FreeLevels.{stops_here, free_here}
use Rattle.pb_ingest.proofs.level.free_levels.Goals as goal
use Rattle.pb_version.proofs.Levels.{level_first}

pub returns-then-any_meets-clause-value : goal.returns-then-any_meets-clause-value
returns-then-any_meets-clause-value c =
    let cut = option_copied c.args.cut in
    let hull = c.args.hull.now in
    let levels = c.args.version.now.levels in
    let tables = c.tables.result.now in
    let first = level_first levels c.loop-level.level tables (omega (arith, c.loop-level-test.true, c.tables.ensures.in_form.levels)) c.tables.ensures.value in
    let none = ap (free_levels cut hull) first ∙ stops_here cut hull tables (drop (c.loop-level.level + 1) levels) (sym c.any_meets.ensures ∙ c.if-any_meets.true) in
    omega (arith, none, c.loop-level.invariant)

pub loop-level-preserved : goal.loop-level-preserved
loop-level-preserved c =
    let cut = option_copied c.args.cut in
    let hull = c.args.hull.now in
    let levels = c.args.version.now.levels in
    let tables = c.tables.result.now in
    let first = level_first levels c.loop-level.level tables (omega (arith, c.loop-level-test.true, c.tables.ensures.in_form.levels)) c.tables.ensures.value in
    let more = ap (free_levels cut hull) first ∙ free_here cut hull tables (drop (c.loop-level.level + 1) levels) (sym c.any_meets.ensures ∙ c.if-any_meets.false) in
    omega (arith, more, c.loop-level.invariant)

pub returns-clause-value : goal.returns-clause-value
returns-clause-value c =
    let cut = option_copied c.args.cut in
    let hull = c.args.hull.now in
    let levels = c.args.version.now.levels in
    let none = ap (free_levels cut hull) (drop_all c.loop-level.level levels (omega (arith, c.loop-level-test.false, c.five-five.ensures.in_form.levels))) in
    omega (arith, none, c.loop-level.invariant, c.loop-level-test.false, c.loop-level.auto.level-end)
