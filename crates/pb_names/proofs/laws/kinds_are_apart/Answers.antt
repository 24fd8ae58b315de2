use Rattle.pb_names.proofs.NumberedFileLemmas.{kinds_are_apart}
use Rattle.pb_names.proofs.laws.kinds_are_apart.Goals as goal

pub returns : goal.returns
returns c = kinds_are_apart
