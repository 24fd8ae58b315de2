use Rattle.pb_excise.proofs.Rules.{breaks_no_rule}
use Rattle.pb_excise.proofs.laws.breaks_no_rule.Goals as goal

pub returns : goal.returns
returns c = breaks_no_rule
