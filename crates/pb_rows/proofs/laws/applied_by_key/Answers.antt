use Rattle.pb_rows.proofs.VerdictLaws.{get-applied, get-applied_newest_first}
use Rattle.pb_rows.proofs.laws.applied_by_key.Goals as goal

pub returns-clause-one : goal.returns-clause-one
returns-clause-one c = get-applied

pub returns-clause-many : goal.returns-clause-many
returns-clause-many c = get-applied_newest_first
