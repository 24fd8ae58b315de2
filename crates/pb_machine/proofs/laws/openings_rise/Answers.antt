use Rattle.pb_machine.proofs.Refused.{opening_rises, opening_kept, openings_stay}
use Rattle.pb_machine.proofs.laws.openings_rise.Goals as goal

pub returns-clause-opened : goal.returns-clause-opened
returns-clause-opened c = opening_rises

pub returns-clause-refused : goal.returns-clause-refused
returns-clause-refused c = opening_kept

pub returns-clause-others : goal.returns-clause-others
returns-clause-others c = openings_stay
