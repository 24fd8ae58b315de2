use Rattle.std.proofs.Common.{inl, refl}
use Rattle.pb_recover.proofs.Steps.{numbered_log}
use Rattle.pb_recover.proofs.laws.steps.logs_have_names.Goals as goal

pub returns-clause-current : goal.returns-clause-current
returns-clause-current c = inl refl

pub returns-clause-numbered : goal.returns-clause-numbered
returns-clause-numbered c = numbered_log
