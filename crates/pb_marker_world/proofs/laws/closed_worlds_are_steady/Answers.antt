use Rattle.pb_marker_world.proofs.RunLaws.{closed_steady}
use Rattle.pb_marker_world.proofs.laws.closed_worlds_are_steady.Goals as goal

pub returns : goal.returns
returns c = closed_steady
