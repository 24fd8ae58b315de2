use Rattle.pb_rows.proofs.ViewedForm.{viewed_is_layer}
use Rattle.pb_rows.proofs.laws.views.views_keep_layers.Goals as goal

pub returns : goal.returns
returns c = viewed_is_layer
