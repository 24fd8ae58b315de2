use Rattle.pb_version.proofs.FoldLaws.{folds_first, folds_further, folds_to_one}
use Rattle.pb_version.proofs.laws.edits_fold_further.Goals as goal

pub returns-clause-first : goal.returns-clause-first
returns-clause-first c = folds_first

pub returns-clause-further : goal.returns-clause-further
returns-clause-further c = folds_further

pub returns-clause-one : goal.returns-clause-one
returns-clause-one c = folds_to_one
