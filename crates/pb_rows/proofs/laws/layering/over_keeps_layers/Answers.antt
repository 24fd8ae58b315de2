use Rattle.pb_rows.proofs.LayersOver.{layer-over, layer-over_all}
use Rattle.pb_rows.proofs.laws.layering.over_keeps_layers.Goals as goal

pub returns-clause-two : goal.returns-clause-two
returns-clause-two c = layer-over

pub returns-clause-all : goal.returns-clause-all
returns-clause-all c = layer-over_all
