use Rattle.pb_ingest.proofs.Planning.{items_in_form}
use Rattle.pb_ingest.proofs.Ingest.{breaks_no_rule}
use Rattle.pb_ingest.proofs.laws.an_ingest_breaks_no_rule.Goals as goal

pub returns-clause-rules : goal.returns-clause-rules
returns-clause-rules c v cut written edit is alone unbroken rests new apart forms =
    breaks_no_rule v cut written edit rests new is.levels alone unbroken apart forms

pub returns-clause-in_form : goal.returns-clause-in_form
returns-clause-in_form c v cut written is distinct forms = items_in_form v cut is.levels written distinct forms
