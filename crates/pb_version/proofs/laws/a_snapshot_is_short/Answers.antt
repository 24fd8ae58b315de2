use Rattle.pb_version.proofs.Short.{snapshot_short}
use Rattle.pb_version.proofs.laws.a_snapshot_is_short.Goals as goal

pub returns : goal.returns
returns c = snapshot_short
