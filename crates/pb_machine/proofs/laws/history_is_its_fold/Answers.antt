use Rattle.pb_machine.proofs.Folds.{history_folds}
use Rattle.pb_machine.proofs.Shut.{first_opening, stays_shut}
use Rattle.pb_machine.proofs.laws.history_is_its_fold.Goals as goal

pub returns-clause-begun : goal.returns-clause-begun
returns-clause-begun c = history_folds (λ store count map. Unit {0})

pub returns-clause-first : goal.returns-clause-first
returns-clause-first c = first_opening

pub returns-clause-before : goal.returns-clause-before
returns-clause-before c = stays_shut
