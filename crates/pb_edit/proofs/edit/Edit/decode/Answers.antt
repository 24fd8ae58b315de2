use Rattle.pb_edit.proofs.Edits.{edit_takes, edit_off}
use Rattle.pb_edit.proofs.edit.Edit.decode.Goals as goal

pub returns-in-Ok-clause-found : goal.returns-in-Ok-clause-found
returns-in-Ok-clause-found c = edit_takes c.args.from.now c.in-Ok.edit c.in-Ok.ensures

pub returns-in-Err-Off-clause-none : goal.returns-in-Err-Off-clause-none
returns-in-Err-Off-clause-none c = edit_off c.args.from.now (rw c.in-Err-Off.field-0-is at c.in-Err-Off.ensures)
