use Rattle.pb_lend.proofs.Received.{lent_silent, upper_silent}
use Rattle.pb_lend.proofs.laws.a_bundle_says_nothing_outside.Goals as goal

pub returns-clause-tables : goal.returns-clause-tables
returns-clause-tables c = λ v from layers span. lent_silent layers span v from

pub returns-clause-upper : goal.returns-clause-upper
returns-clause-upper c = upper_silent
