use Rattle.std.proofs.Common.{ap}
use Rattle.std.specs.Prelude.{not}
use Rattle.pb_rows.proofs.HullHolds.{cut_hull_within}
use Rattle.pb_rows.proofs.laws.views.a_cut_layer_has_its_hull_within.Goals as goal

pub returns-clause-lo : goal.returns-clause-lo
returns-clause-lo c = λ bounds hull layer is. ap not (cut_hull_within bounds layer hull is).lo

pub returns-clause-hi : goal.returns-clause-hi
returns-clause-hi c = λ bounds hull layer is. ap not (cut_hull_within bounds layer hull is).hi
