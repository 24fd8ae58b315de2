use Rattle.pb_rows.proofs.FilledLaws.{hull_if_filled, filled-over}
use Rattle.pb_rows.proofs.laws.views.filled.Goals as goal

pub returns-clause-hull : goal.returns-clause-hull
returns-clause-hull c = hull_if_filled

pub returns-clause-over : goal.returns-clause-over
returns-clause-over c = filled-over
