use Rattle.pb_rows.proofs.TouchLaws.{untouched_span, untouched_layer}
use Rattle.pb_rows.proofs.laws.views.untouched_commutes.Goals as goal

pub returns-clause-span : goal.returns-clause-span
returns-clause-span c = untouched_span

pub returns-clause-layer : goal.returns-clause-layer
returns-clause-layer c = untouched_layer
