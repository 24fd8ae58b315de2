use Rattle.pb_version.proofs.Above.{flush_above}
use Rattle.pb_version.proofs.laws.above.a_flush_adds_above.Goals as goal

pub returns : goal.returns
returns c = flush_above
