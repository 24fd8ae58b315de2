use Rattle.pb_script.proofs.AgainScripts.{lines_again}
use Rattle.pb_script.proofs.laws.printed_scripts_are_read.Goals as goal

pub returns : goal.returns
returns c = lines_again
