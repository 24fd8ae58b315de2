use Rattle.std.proofs.Common.{◌∙◌}
use Rattle.pebble_cli.specs.Runs.{fault}
use Rattle.pebble_cli.proofs.Progress.{text_prints}
use Rattle.pebble_cli.proofs.run.say_fault.Goals as goal

pub returns-in-Ok-clause-prints : goal.returns-in-Ok-clause-prints
returns-in-Ok-clause-prints g c = λ told.
    text_prints (fault c.args.number) c.say.result c.as_bytes.result.now _ _ _ _
    (rw c.say.ensures.status tt) (c.as_bytes.ensures.value ∙ c.in-Ok.ensures) (c.say.ensures.text told)
