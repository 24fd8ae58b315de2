use Rattle.pb_marker_world.proofs.CountLemmas.{counted_none, counted_some}
use Rattle.pb_marker_world.proofs.laws.counting_tells_markers.Goals as goal

pub returns-clause-none : goal.returns-clause-none
returns-clause-none c = counted_none

pub returns-clause-some : goal.returns-clause-some
returns-clause-some c = counted_some
