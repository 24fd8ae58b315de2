use Rattle.pb_script.proofs.FormedScripts.{lines_in}
use Rattle.pb_script.proofs.laws.lines_are_in_form.Goals as goal

pub returns : goal.returns
returns c = lines_in
