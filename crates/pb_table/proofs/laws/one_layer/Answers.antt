use Rattle.pb_table.proofs.TableLemmas.{one_layer}
use Rattle.pb_table.proofs.laws.one_layer.Goals as goal

pub returns : goal.returns
returns c = one_layer
