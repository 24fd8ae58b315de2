use Rattle.pb_marker_world.proofs.StepLists.{spent_each, spent_block}
use Rattle.pb_marker_world.proofs.laws.spends_reach.Goals as goal

pub returns-clause-each : goal.returns-clause-each
returns-clause-each c = spent_each

pub returns-clause-block : goal.returns-clause-block
returns-clause-block c = spent_block
