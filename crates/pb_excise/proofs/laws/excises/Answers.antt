use Rattle.std.proofs.Common.{refl}
use Rattle.pb_keys.specs.Span.{overlap}
use Rattle.pb_excise.specs.Excised.{excised}
use Rattle.pb_excise.proofs.laws.excises.Goals as goal

pub returns-clause-inside : goal.returns-clause-inside
unfolding overlap excised
returns-clause-inside c = refl

pub returns-clause-all : goal.returns-clause-all
unfolding overlap excised
returns-clause-all c = refl

pub returns-clause-beside : goal.returns-clause-beside
unfolding overlap excised
returns-clause-beside c = refl

pub returns-clause-front : goal.returns-clause-front
unfolding overlap excised
returns-clause-front c = refl

pub returns-clause-again : goal.returns-clause-again
unfolding overlap excised
returns-clause-again c = refl

pub returns-clause-once_more : goal.returns-clause-once_more
unfolding overlap excised
returns-clause-once_more c = refl

pub returns-clause-two : goal.returns-clause-two
unfolding overlap excised
returns-clause-two c = refl

pub returns-clause-levels : goal.returns-clause-levels
unfolding overlap excised
returns-clause-levels c = refl
