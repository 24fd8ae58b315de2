use Rattle.pb_rows.proofs.CommandLaws.{last_over_others, last_says_first}
use Rattle.pb_rows.proofs.laws.layering.last_change_is_newest.Goals as goal

pub returns-clause-layers : goal.returns-clause-layers
returns-clause-layers c = last_over_others

pub returns-clause-says : goal.returns-clause-says
returns-clause-says c = last_says_first
