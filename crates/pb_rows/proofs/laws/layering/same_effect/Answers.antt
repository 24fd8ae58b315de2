use Rattle.pb_rows.proofs.LayeringLaws.{same_applied, same_applied_newest_first}
use Rattle.pb_rows.proofs.laws.layering.same_effect.Goals as goal

pub returns-clause-one : goal.returns-clause-one
returns-clause-one c = same_applied

pub returns-clause-many : goal.returns-clause-many
returns-clause-many c = same_applied_newest_first
