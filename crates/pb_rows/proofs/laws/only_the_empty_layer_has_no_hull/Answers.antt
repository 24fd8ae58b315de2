use Rattle.pb_rows.proofs.HullLaws.{no_hull}
use Rattle.pb_rows.proofs.laws.only_the_empty_layer_has_no_hull.Goals as goal

pub returns : goal.returns
returns c = no_hull
