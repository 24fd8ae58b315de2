use Rattle.pb_rows.proofs.LayersOver.{one_normal_form}
use Rattle.pb_rangedel.proofs.laws.one_normal_form.Goals as goal

pub returns : goal.returns
returns c = one_normal_form
