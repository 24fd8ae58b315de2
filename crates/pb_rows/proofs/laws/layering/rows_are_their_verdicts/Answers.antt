use Rattle.pb_rows.proofs.SameRows.{same_rows_by_verdict}
use Rattle.pb_rows.proofs.laws.layering.rows_are_their_verdicts.Goals as goal

pub returns : goal.returns
returns c = same_rows_by_verdict
