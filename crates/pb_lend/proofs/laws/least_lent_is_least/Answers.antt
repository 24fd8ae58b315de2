use Rattle.pb_lend.proofs.Least.{level_remote, least_five, least_six, least_seven, least_from}
use Rattle.pb_lend.proofs.laws.least_lent_is_least.Goals as goal

pub returns-clause-level : goal.returns-clause-level
returns-clause-level c = level_remote

pub returns-clause-five : goal.returns-clause-five
returns-clause-five c = least_five

pub returns-clause-six : goal.returns-clause-six
returns-clause-six c = least_six

pub returns-clause-seven : goal.returns-clause-seven
returns-clause-seven c = least_seven

pub returns-clause-least : goal.returns-clause-least
returns-clause-least c = least_from
