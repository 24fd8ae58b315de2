use Rattle.pb_rows.proofs.HullHolds.{silent_outside, shown_within, hull_is_span}
use Rattle.pb_rows.proofs.ViewedForm.{whole_through_hull}
use Rattle.pb_rows.proofs.laws.views.a_hull_holds_its_layer.Goals as goal

pub returns-clause-silent : goal.returns-clause-silent
returns-clause-silent c = silent_outside

pub returns-clause-shown : goal.returns-clause-shown
returns-clause-shown c = shown_within

pub returns-clause-span : goal.returns-clause-span
returns-clause-span c = hull_is_span

pub returns-clause-whole : goal.returns-clause-whole
returns-clause-whole c = whole_through_hull
