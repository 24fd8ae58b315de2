use Rattle.pb_marker_world.proofs.RunLaws.{held_stays}
use Rattle.pb_marker_world.proofs.laws.held_objects_stay.Goals as goal

pub returns : goal.returns
returns c = λ w store steps after t n e b reached. held_stays w store steps after b reached t n e
