use Rattle.pb_folder.proofs.ShownLaws.{free_in_form, new_sound, new_stands}
use Rattle.pb_folder.proofs.laws.shown.new_folders_are_good.Goals as goal

pub returns-clause-names : goal.returns-clause-names
returns-clause-names c = free_in_form

pub returns-clause-each : goal.returns-clause-each
returns-clause-each c = new_stands

pub returns-clause-sound : goal.returns-clause-sound
returns-clause-sound c = λ words objects free new. new_sound objects free words new
