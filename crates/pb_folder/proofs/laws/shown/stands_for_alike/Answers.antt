use Rattle.pb_folder.proofs.ShownLaws.{named_there, stands_alike}
use Rattle.pb_folder.proofs.laws.shown.stands_for_alike.Goals as goal

pub returns-clause-there : goal.returns-clause-there
returns-clause-there c = λ objects folder id n m. named_there objects objects folder id n m

pub returns-clause-alike : goal.returns-clause-alike
returns-clause-alike c = stands_alike
