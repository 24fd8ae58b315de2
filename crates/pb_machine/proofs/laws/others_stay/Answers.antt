use Rattle.pb_machine.proofs.Stores.{others_kept, all_kept}
use Rattle.pb_machine.proofs.laws.others_stay.Goals as goal

pub returns-clause-named : goal.returns-clause-named
returns-clause-named c = others_kept

pub returns-clause-none : goal.returns-clause-none
returns-clause-none c = all_kept
