use Rattle.std.proofs.Common.{refl, sym, ◌∙◌}
use Rattle.pb_block.proofs.Checks.{checks-stuck, checks-step, checks-end, some_left, none_left}
use Rattle.pb_block.proofs.Runs.{step_shorter}
use Rattle.pb_block.proofs.scan.is_run.Goals as goal

pub returns-then-not-step : goal.returns-then-not-step
returns-then-not-step g c =
    sym (checks-stuck g.row.R c.loop-scan.scan (some_left c.loop-scan.scan.bytes c.loop-scan-test.ensures)
    (c.if-not-step.ensures.stays refl)) ∙ c.loop-scan.invariant

pub loop-scan-smaller : goal.loop-scan-smaller
loop-scan-smaller g c = step_shorter g.row.R c.loop-scan.scan c.step.new.self (c.if-not-step.ensures.goes refl)

pub loop-scan-preserved : goal.loop-scan-preserved
loop-scan-preserved g c =
    sym (checks-step g.row.R c.loop-scan.scan c.step.new.self (some_left c.loop-scan.scan.bytes c.loop-scan-test.ensures)
    (c.if-not-step.ensures.goes refl)) ∙ c.loop-scan.invariant

pub returns : goal.returns
returns g c =
    c.has_no_restart.ensures ∙ sym (checks-end g.row.R c.loop-scan.scan (none_left c.loop-scan.scan.bytes c.loop-scan-test.ensures))
    ∙ c.loop-scan.invariant
