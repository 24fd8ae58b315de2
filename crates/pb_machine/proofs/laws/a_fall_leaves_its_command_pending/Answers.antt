use Rattle.pb_machine.proofs.Refused.{fall_is}
use Rattle.pb_machine.proofs.laws.a_fall_leaves_its_command_pending.Goals as goal

pub returns-clause-any : goal.returns-clause-any
returns-clause-any c = fall_is
