use Rattle.pb_marker_world.proofs.Steady.{fewer_handles}
use Rattle.pb_marker_world.proofs.laws.fewer_handles_keep_steady.Goals as goal

pub returns : goal.returns
returns c = fewer_handles
