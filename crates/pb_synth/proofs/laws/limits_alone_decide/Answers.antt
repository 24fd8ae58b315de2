use Rattle.pb_synth.proofs.WithinLaws.{key_decides, span_decides}
use Rattle.pb_synth.proofs.laws.limits_alone_decide.Goals as goal

pub returns-clause-key : goal.returns-clause-key
returns-clause-key c = key_decides

pub returns-clause-span : goal.returns-clause-span
returns-clause-span c = span_decides
