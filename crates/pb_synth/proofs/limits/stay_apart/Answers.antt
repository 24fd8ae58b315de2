use Rattle.std.proofs.Common.{ap, ◌∙◌}
use Rattle.pb_synth.proofs.BehindLaws.{not_empty}
use Rattle.pb_synth.proofs.ClashLaws.{clash_refuses}
use Rattle.pb_synth.proofs.limits.stay_apart.Goals as goal

pub returns-in-Some : goal.returns-in-Some
returns-in-Some c =
    let some = not_empty c.as_slice.result.now c.args.view.now.suffix c.is_empty.result c.is_empty.ensures c.if-is_empty.false (c.as_slice.ensures ∙ ap (λ v. v.suffix) c.view.view_is) in
    (λ passes. cc, λ either. absurd (clash_refuses c.args.view.now.suffix c.args.rows.now c.in-Some.field-0 some c.in-Some.ensures either))
