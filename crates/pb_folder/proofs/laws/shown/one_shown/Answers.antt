use Rattle.pb_folder.proofs.ShownLaws.{one_shown}
use Rattle.pb_folder.proofs.laws.shown.one_shown.Goals as goal

pub returns : goal.returns
returns c = one_shown
