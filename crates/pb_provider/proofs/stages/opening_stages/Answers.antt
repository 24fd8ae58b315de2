use Rattle.std.proofs.Common.{◌∙◌, arith}
use Rattle.pb_provider.proofs.StageLemmas.{stages_step, stages_whole}
use Rattle.pb_provider.proofs.stages.opening_stages.Goals as goal

pub loop-place-preserved : goal.loop-place-preserved
loop-place-preserved c =
    stages_step c.args.version.now c.args.catalog.now.entries c.loop-place.place c.loop-place.stages.items c.add_at.new.stages.items
    (omega (arith, c.loop-place-test.true, c.len-place-end.ensures)) c.loop-place.invariant (λ found is. c.in_ok-add_at.ensures found is)
