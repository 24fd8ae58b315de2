use Rattle.pb_version.proofs.Above.{same_above}
use Rattle.pb_version.proofs.laws.above.same_tables_add_above.Goals as goal

pub returns : goal.returns
returns c = same_above
