use Rattle.pb_marker_world.proofs.Answers.{meets_steady}
use Rattle.pb_marker_world.proofs.marker_world.World.step.Goals as goal

pub invariant_of-self : goal.invariant_of-self
invariant_of-self c = meets_steady _ _ _ _ c.happen.ensures c.self.invariant

pub returns-clause-steady : goal.returns-clause-steady
returns-clause-steady c = meets_steady _ _ _ _ c.happen.ensures c.self.invariant

pub returns-clause-sound : goal.returns-clause-sound
returns-clause-sound c = (meets_steady _ _ _ _ c.happen.ensures c.self.invariant).sound
