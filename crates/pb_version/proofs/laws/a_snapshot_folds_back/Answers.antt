use Rattle.std.proofs.Common.{refl}
use Rattle.pb_version.specs.Edited.{edited}
use Rattle.pb_version.specs.Rules.{first_broken}
use Rattle.pb_version.proofs.SnapshotRules.{snapshot_back, snapshot_unbroken, snapshot_folds}
use Rattle.pb_version.proofs.SnapshotSpelling.{snapshot_spellable, snapshot_in_form}
use Rattle.pb_version.proofs.laws.a_snapshot_folds_back.Goals as goal

pub returns-clause-back : goal.returns-clause-back
returns-clause-back c = snapshot_back

pub returns-clause-unbroken : goal.returns-clause-unbroken
returns-clause-unbroken c = snapshot_unbroken

pub returns-clause-folds : goal.returns-clause-folds
returns-clause-folds c = snapshot_folds

pub returns-clause-spellable : goal.returns-clause-spellable
returns-clause-spellable c = snapshot_spellable

pub returns-clause-in_form : goal.returns-clause-in_form
returns-clause-in_form c = snapshot_in_form

pub returns-clause-too_early : goal.returns-clause-too_early
unfolding first_broken edited
returns-clause-too_early c = refl
