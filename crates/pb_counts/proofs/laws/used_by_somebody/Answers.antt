use Rattle.pb_counts.proofs.Used.{user_of, uses-used}
use Rattle.pb_counts.proofs.laws.used_by_somebody.Goals as goal

pub returns-clause-some : goal.returns-clause-some
returns-clause-some c = λ counts backing used. user_of counts.pairs backing used

pub returns-clause-each : goal.returns-clause-each
returns-clause-each c = λ counts user backing uses. uses-used counts.pairs user backing uses
