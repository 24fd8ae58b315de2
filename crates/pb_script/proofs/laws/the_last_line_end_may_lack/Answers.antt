use Rattle.pb_script.proofs.EndLemmas.{last_end_lacks}
use Rattle.pb_script.proofs.laws.the_last_line_end_may_lack.Goals as goal

pub returns : goal.returns
returns c = last_end_lacks
