use Rattle.pb_names.proofs.NumberedFileLemmas.{files_are_numbered}
use Rattle.pb_names.proofs.laws.files_are_numbered.Goals as goal

pub returns : goal.returns
returns c = files_are_numbered
