use Rattle.std.proofs.Common.{refl}
use Rattle.pb_version.specs.Edited.{edited}
use Rattle.pb_version.specs.Rules.{first_broken}
use Rattle.pb_version.proofs.laws.the_first_edits.Goals as goal

pub returns-clause-first : goal.returns-clause-first
unfolding first_broken edited
returns-clause-first c = record { some = λ e. cc; folds = (refl, refl) }

pub returns-clause-flush : goal.returns-clause-flush
unfolding first_broken edited
returns-clause-flush c = record { some = λ e. cc; folds = (refl, (refl, refl)) }

pub returns-clause-twice : goal.returns-clause-twice
unfolding first_broken edited
returns-clause-twice c = refl

pub returns-clause-without_format : goal.returns-clause-without_format
unfolding first_broken edited
returns-clause-without_format c = refl

pub returns-clause-carve : goal.returns-clause-carve
unfolding first_broken edited
returns-clause-carve c = record { some = λ e. cc; folds = (refl, (refl, (refl, refl))) }
