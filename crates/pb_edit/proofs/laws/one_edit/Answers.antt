use Rattle.pb_edit.proofs.Edits.{one_edit}
use Rattle.pb_edit.proofs.laws.one_edit.Goals as goal

pub returns : goal.returns
returns c = one_edit
