use Rattle.pb_machine.proofs.Refused.{history_kept}
use Rattle.pb_machine.proofs.laws.a_refusal_keeps_the_history.Goals as goal

pub returns : goal.returns
returns c = history_kept
