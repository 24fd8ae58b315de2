use Rattle.std.proofs.Common.{refl}
use Rattle.pb_keys.specs.Span.{overlap}
use Rattle.pb_lend.proofs.laws.lendings.least_levels.Goals as goal

pub returns-clause-sixth_is_remote : goal.returns-clause-sixth_is_remote
unfolding overlap
returns-clause-sixth_is_remote c = refl

pub returns-clause-sixth_is_lent : goal.returns-clause-sixth_is_lent
unfolding overlap
returns-clause-sixth_is_lent c = refl

pub returns-clause-fifth_is_read : goal.returns-clause-fifth_is_read
unfolding overlap
returns-clause-fifth_is_read c = refl

pub returns-clause-both_are_remote : goal.returns-clause-both_are_remote
unfolding overlap
returns-clause-both_are_remote c = refl

pub returns-clause-both_are_lent : goal.returns-clause-both_are_lent
unfolding overlap
returns-clause-both_are_lent c = refl

pub returns-clause-nothing_is_read : goal.returns-clause-nothing_is_read
unfolding overlap
returns-clause-nothing_is_read c = refl

pub returns-clause-local_beside : goal.returns-clause-local_beside
unfolding overlap
returns-clause-local_beside c = refl

pub returns-clause-only_in_the_span : goal.returns-clause-only_in_the_span
unfolding overlap
returns-clause-only_in_the_span c = refl

pub returns-clause-empty_levels : goal.returns-clause-empty_levels
unfolding overlap
returns-clause-empty_levels c = refl

pub returns-clause-empty_is_lent : goal.returns-clause-empty_is_lent
unfolding overlap
returns-clause-empty_is_lent c = refl

pub returns-clause-sixth_is_local : goal.returns-clause-sixth_is_local
unfolding overlap
returns-clause-sixth_is_local c = refl

pub returns-clause-none_is_lent : goal.returns-clause-none_is_lent
unfolding overlap
returns-clause-none_is_lent c = refl

pub returns-clause-all_is_read : goal.returns-clause-all_is_read
unfolding overlap
returns-clause-all_is_read c = refl
