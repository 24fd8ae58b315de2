use Rattle.std.proofs.Common.{refl}
use Rattle.pb_keys.specs.Span.{overlap}
use Rattle.pb_rows.specs.Hull.{hull_of}
use Rattle.pb_version.proofs.laws.on_top.what_is_on_top.Goals as goal

pub returns-clause-greater_rank : goal.returns-clause-greater_rank
unfolding overlap
returns-clause-greater_rank c = refl

pub returns-clause-lesser_rank : goal.returns-clause-lesser_rank
unfolding overlap
returns-clause-lesser_rank c = refl

pub returns-clause-own_level : goal.returns-clause-own_level
unfolding overlap
returns-clause-own_level c = refl

pub returns-clause-touching : goal.returns-clause-touching
unfolding overlap
returns-clause-touching c = refl

pub returns-clause-lesser_level : goal.returns-clause-lesser_level
unfolding overlap
returns-clause-lesser_level c = refl

pub returns-clause-deeper_level : goal.returns-clause-deeper_level
unfolding overlap
returns-clause-deeper_level c = refl

pub returns-clause-hull : goal.returns-clause-hull
unfolding hull_of
returns-clause-hull c = refl
