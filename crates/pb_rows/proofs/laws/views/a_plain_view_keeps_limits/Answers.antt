use Rattle.pb_rows.proofs.ViewedForm.{plain_view_keeps}
use Rattle.pb_rows.proofs.laws.views.a_plain_view_keeps_limits.Goals as goal

pub returns : goal.returns
returns c = plain_view_keeps
