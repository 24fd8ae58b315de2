use Rattle.std.proofs.Common.{refl}
use Rattle.pb_keys.specs.Span.{overlap}
use Rattle.pb_lend.proofs.laws.lendings.cut_tables.Goals as goal

pub returns-clause-half : goal.returns-clause-half
unfolding overlap
returns-clause-half c = refl

pub returns-clause-prefix : goal.returns-clause-prefix
unfolding overlap
returns-clause-prefix c = refl
