use Rattle.pb_read.proofs.Held.{none_is_damaged, none_is_missing}
use Rattle.pb_read.proofs.laws.what_is_held_is_not_amiss.Goals as goal

pub returns-clause-damaged : goal.returns-clause-damaged
returns-clause-damaged c = none_is_damaged

pub returns-clause-missing : goal.returns-clause-missing
returns-clause-missing c = none_is_missing
