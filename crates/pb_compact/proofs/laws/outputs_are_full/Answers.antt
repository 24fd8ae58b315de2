use Rattle.pb_compact.proofs.FullOutputs.{outputs_are_full}
use Rattle.pb_compact.proofs.laws.outputs_are_full.Goals as goal

pub returns : goal.returns
returns c layer k d of h = outputs_are_full layer of k d h
