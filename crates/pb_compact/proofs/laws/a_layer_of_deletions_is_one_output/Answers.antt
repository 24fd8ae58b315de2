use Rattle.pb_compact.proofs.TogetherLaws.{deletions_alone, nothing_alone}
use Rattle.pb_compact.proofs.laws.a_layer_of_deletions_is_one_output.Goals as goal

pub returns-clause-one : goal.returns-clause-one
returns-clause-one c = deletions_alone

pub returns-clause-none : goal.returns-clause-none
returns-clause-none c = nothing_alone
