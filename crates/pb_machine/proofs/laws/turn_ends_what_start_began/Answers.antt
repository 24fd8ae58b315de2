use Rattle.pb_machine.proofs.Turns.{turn_reply, turn_after}
use Rattle.pb_machine.proofs.laws.turn_ends_what_start_began.Goals as goal

pub returns-clause-reply : goal.returns-clause-reply
returns-clause-reply c = turn_reply

pub returns-clause-after : goal.returns-clause-after
returns-clause-after c = turn_after
