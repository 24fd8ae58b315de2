use Rattle.pb_folder.proofs.AlikeLaws.{named_files}
use Rattle.pb_folder.proofs.laws.named_files_count.Goals as goal

pub returns : goal.returns
returns c = named_files
