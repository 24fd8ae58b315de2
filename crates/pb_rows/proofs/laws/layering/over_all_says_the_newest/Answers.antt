use Rattle.pb_rows.proofs.LayeringLaws.{verdict-over_all, applied-over_all}
use Rattle.pb_rows.proofs.laws.layering.over_all_says_the_newest.Goals as goal

pub returns-clause-says : goal.returns-clause-says
returns-clause-says c = verdict-over_all

pub returns-clause-does : goal.returns-clause-does
returns-clause-does c = applied-over_all
