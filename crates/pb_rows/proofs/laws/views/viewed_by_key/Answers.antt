use Rattle.pb_rows.proofs.MappedVerdicts.{verdict-viewed, verdict-narrower}
use Rattle.pb_rows.proofs.laws.views.viewed_by_key.Goals as goal

pub returns-clause-one : goal.returns-clause-one
returns-clause-one c = verdict-viewed

pub returns-clause-narrower : goal.returns-clause-narrower
returns-clause-narrower c = verdict-narrower
