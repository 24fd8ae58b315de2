use Rattle.pb_rows.proofs.VerdictLaws.{verdict-over, verdicts-append}
use Rattle.pb_rows.proofs.laws.newer_first.Goals as goal

pub returns-clause-layers : goal.returns-clause-layers
returns-clause-layers c = verdict-over

pub returns-clause-lists : goal.returns-clause-lists
returns-clause-lists c = verdicts-append
