use Rattle.pb_version.proofs.Adding.{more_rules, more_in_form, more_is_some}
use Rattle.pb_version.proofs.laws.on_top.more_tables_break_no_rule.Goals as goal

pub returns-clause-rules : goal.returns-clause-rules
returns-clause-rules c = λ v edit ps none unbroken may. more_rules v edit none ps unbroken may

pub returns-clause-in_form : goal.returns-clause-in_form
returns-clause-in_form c = more_in_form

pub returns-clause-some : goal.returns-clause-some
returns-clause-some c = more_is_some
