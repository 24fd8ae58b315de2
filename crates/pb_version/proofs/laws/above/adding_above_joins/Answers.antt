use Rattle.pb_version.proofs.Above.{joined_above}
use Rattle.pb_version.proofs.laws.above.adding_above_joins.Goals as goal

pub returns : goal.returns
returns c = joined_above
