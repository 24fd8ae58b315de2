use Rattle.pb_rows.proofs.LayersOver.{over-groups}
use Rattle.pb_rows.proofs.laws.layering.over_groups.Goals as goal

pub returns : goal.returns
returns c = over-groups
