use Rattle.pb_rows.proofs.ViewLaws.{verdict-plain_view}
use Rattle.pb_rows.proofs.laws.bounded_by_key.Goals as goal

pub returns : goal.returns
returns c = verdict-plain_view
