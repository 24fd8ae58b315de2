use Rattle.std.proofs.Common.{refl}
use Rattle.pb_keys.specs.Span.{overlap}
use Rattle.pb_ingest.proofs.laws.tables_planned.Goals as goal

pub returns-clause-pair : goal.returns-clause-pair
unfolding overlap
returns-clause-pair c = refl

pub returns-clause-second : goal.returns-clause-second
unfolding overlap
returns-clause-second c = refl

pub returns-clause-none : goal.returns-clause-none
unfolding overlap
returns-clause-none c = refl

pub returns-clause-items : goal.returns-clause-items
unfolding overlap
returns-clause-items c = refl
