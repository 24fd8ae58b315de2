use Rattle.pb_machine.proofs.ReadBack.{set_is_read}
use Rattle.pb_machine.proofs.laws.an_accepted_set_is_read.Goals as goal

pub returns : goal.returns
returns c = set_is_read
