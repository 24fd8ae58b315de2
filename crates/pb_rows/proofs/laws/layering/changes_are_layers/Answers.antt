use Rattle.pb_rows.proofs.CommandForms.{changing_is_layer, changes_are_layer}
use Rattle.pb_rows.proofs.laws.layering.changes_are_layers.Goals as goal

pub returns-clause-one : goal.returns-clause-one
returns-clause-one c = changing_is_layer

pub returns-clause-many : goal.returns-clause-many
returns-clause-many c = changes_are_layer
