use Rattle.pb_version.proofs.OnTop.{one_on_top}
use Rattle.pb_version.proofs.laws.on_top.on_top_is_applied.Goals as goal

pub returns : goal.returns
returns c = one_on_top
