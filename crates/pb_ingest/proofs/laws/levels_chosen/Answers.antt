use Rattle.std.proofs.Common.{refl}
use Rattle.pb_keys.specs.Span.{overlap}
use Rattle.pb_ingest.proofs.laws.levels_chosen.Goals as goal

pub returns-clause-empty : goal.returns-clause-empty
unfolding overlap
returns-clause-empty c = refl

pub returns-clause-over : goal.returns-clause-over
unfolding overlap
returns-clause-over c = refl

pub returns-clause-beside : goal.returns-clause-beside
unfolding overlap
returns-clause-beside c = refl

pub returns-clause-first : goal.returns-clause-first
unfolding overlap
returns-clause-first c = refl

pub returns-clause-second : goal.returns-clause-second
unfolding overlap
returns-clause-second c = refl

pub returns-clause-fourth : goal.returns-clause-fourth
unfolding overlap
returns-clause-fourth c = refl

pub returns-clause-all_cut : goal.returns-clause-all_cut
unfolding overlap
returns-clause-all_cut c = refl

pub returns-clause-part_cut : goal.returns-clause-part_cut
unfolding overlap
returns-clause-part_cut c = refl

pub returns-clause-uncut : goal.returns-clause-uncut
unfolding overlap
returns-clause-uncut c = refl

pub returns-clause-touching : goal.returns-clause-touching
unfolding overlap
returns-clause-touching c = refl
