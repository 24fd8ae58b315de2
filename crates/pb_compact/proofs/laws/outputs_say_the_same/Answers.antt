use Rattle.pb_compact.proofs.OutputLaws.{outputs_say, others_say}
use Rattle.pb_compact.proofs.laws.outputs_say_the_same.Goals as goal

pub returns-clause-says : goal.returns-clause-says
returns-clause-says c = outputs_say

pub returns-clause-in_any_order : goal.returns-clause-in_any_order
returns-clause-in_any_order c = others_say
