use Rattle.pb_marker_world.proofs.StepLists.{joined, parted, one_step, only_step}
use Rattle.pb_marker_world.proofs.laws.steps_join.Goals as goal

pub returns-clause-joined : goal.returns-clause-joined
returns-clause-joined c = joined

pub returns-clause-parted : goal.returns-clause-parted
returns-clause-parted c = parted

pub returns-clause-one : goal.returns-clause-one
returns-clause-one c = one_step

pub returns-clause-only : goal.returns-clause-only
returns-clause-only c = only_step
