use Rattle.pb_version.proofs.InTurn.{levels_in_turn}
use Rattle.pb_version.proofs.laws.above.levels_say_in_turn.Goals as goal

pub returns : goal.returns
returns c = levels_in_turn
