use Rattle.pb_compact.proofs.Rules.{breaks_no_rule}
use Rattle.pb_compact.proofs.laws.compacting.a_compaction_breaks_no_rule.Goals as goal

pub returns : goal.returns
returns c = breaks_no_rule
