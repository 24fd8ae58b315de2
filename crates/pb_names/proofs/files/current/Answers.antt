use Rattle.std.proofs.Common.{rules}
use Rattle.pb_names.specs.Spelling.{current_name}
use Rattle.pb_names.proofs.files.current.Goals as goal

pub returns : goal.returns
unfolding current_name
returns c = search rules
