use Rattle.pb_version.proofs.OnTop.{verdicts_on_top, get_on_top, in_any_order}
use Rattle.pb_version.proofs.laws.on_top.all_on_top.Goals as goal

pub returns-clause-says : goal.returns-clause-says
returns-clause-says c = verdicts_on_top

pub returns-clause-value : goal.returns-clause-value
returns-clause-value c = get_on_top

pub returns-clause-map : goal.returns-clause-map
returns-clause-map c = in_any_order
