use Rattle.pb_marker_world.proofs.BucketLemmas.{one_marker}
use Rattle.pb_marker_world.proofs.laws.one_marker.Goals as goal

pub returns : goal.returns
returns c = one_marker
