use Rattle.pb_machine.proofs.Refused.{stop_is}
use Rattle.pb_machine.proofs.laws.a_stopped_command_is_not_pending.Goals as goal

pub returns : goal.returns
returns c = stop_is
