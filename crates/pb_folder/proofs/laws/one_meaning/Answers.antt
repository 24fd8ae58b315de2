use Rattle.pb_folder.proofs.OneMeaning.{one_meaning}
use Rattle.pb_folder.proofs.laws.one_meaning.Goals as goal

pub returns : goal.returns
returns c = one_meaning
