use Rattle.std.proofs.Common.{refl}
use Rattle.pb_folder.proofs.GoingOn.{goes_on}
use Rattle.pb_folder.proofs.laws.the_log_goes_on.Goals as goal

pub returns-clause-one_more : goal.returns-clause-one_more
returns-clause-one_more c = goes_on

pub returns-clause-changed : goal.returns-clause-changed
returns-clause-changed c = λ layers m log. refl
