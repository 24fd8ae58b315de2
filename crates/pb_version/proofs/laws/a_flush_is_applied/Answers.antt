use Rattle.pb_version.proofs.Flushing.{flush_rules, table_first, backings_stay, five_then, map_kept}
use Rattle.pb_version.proofs.laws.a_flush_is_applied.Goals as goal

pub returns-clause-rules : goal.returns-clause-rules
returns-clause-rules c = flush_rules

pub returns-clause-first : goal.returns-clause-first
returns-clause-first c = table_first

pub returns-clause-backings : goal.returns-clause-backings
returns-clause-backings c = backings_stay

pub returns-clause-five : goal.returns-clause-five
returns-clause-five c = five_then

pub returns-clause-map : goal.returns-clause-map
returns-clause-map c = λ v count log number size hull layers layer is ranks hulled others. map_kept v count log number size hull is ranks layers layer hulled others
