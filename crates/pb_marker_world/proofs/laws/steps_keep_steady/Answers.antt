use Rattle.pb_marker_world.proofs.Steady.{reaches_steady}
use Rattle.pb_marker_world.proofs.laws.steps_keep_steady.Goals as goal

pub returns : goal.returns
returns c = λ w store steps after b h. reaches_steady steps w store after b h
