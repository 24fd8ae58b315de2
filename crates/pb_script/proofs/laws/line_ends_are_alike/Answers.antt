use Rattle.pb_script.proofs.EndLemmas.{line_ends_alike}
use Rattle.pb_script.proofs.laws.line_ends_are_alike.Goals as goal

pub returns : goal.returns
returns c = line_ends_alike
