use Rattle.pb_compact.proofs.FewOutputs.{few_outputs}
use Rattle.pb_compact.proofs.laws.outputs_are_few.Goals as goal

pub returns : goal.returns
returns c = few_outputs
