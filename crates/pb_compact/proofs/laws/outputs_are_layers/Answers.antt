use Rattle.pb_compact.proofs.OutputLaws.{outputs_are_layers, outputs_rise, outputs_are_apart, outputs_lie_within}
use Rattle.pb_compact.proofs.FilledOutputs.{outputs_are_filled}
use Rattle.pb_compact.proofs.laws.outputs_are_layers.Goals as goal

pub returns-clause-in_form : goal.returns-clause-in_form
returns-clause-in_form c = outputs_are_layers

pub returns-clause-rise : goal.returns-clause-rise
returns-clause-rise c = outputs_rise

pub returns-clause-apart : goal.returns-clause-apart
returns-clause-apart c = outputs_are_apart

pub returns-clause-within : goal.returns-clause-within
returns-clause-within c = outputs_lie_within

pub returns-clause-filled : goal.returns-clause-filled
returns-clause-filled c = outputs_are_filled
