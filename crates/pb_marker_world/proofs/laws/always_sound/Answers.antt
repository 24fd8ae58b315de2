use Rattle.pb_marker_world.specs.Machine.{empty_world}
use Rattle.pb_marker_world.proofs.Steady.{runs_steady, empty_steady}
use Rattle.pb_marker_world.proofs.laws.always_sound.Goals as goal

pub returns : goal.returns
returns c = λ steps w h. (runs_steady steps empty_world w empty_steady h).sound
