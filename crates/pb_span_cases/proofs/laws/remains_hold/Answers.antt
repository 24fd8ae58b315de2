use Rattle.pb_span_cases.proofs.RemainLaws.{held_by_remains, remains_in_form, remains_at_most_two}
use Rattle.pb_span_cases.proofs.laws.remains_hold.Goals as goal

pub returns : goal.returns
returns c = record { keys = held_by_remains; in_form = remains_in_form; at_most_two = remains_at_most_two }
