use Rattle.pb_compact.proofs.Left.{none_left}
use Rattle.pb_compact.proofs.laws.compacting.no_input_is_left.Goals as goal

pub returns : goal.returns
returns c = none_left
