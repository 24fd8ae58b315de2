use Rattle.std.proofs.Common.{◌≡◌, List, [], ◌∷◌, ◌∙◌, ap, sym, subst}
use Rattle.pb_edit.specs.Edit.{CreatedItem, VersionEdit}
use Rattle.pb_edit.specs.Grammar.{IsEdit}
use Rattle.pb_version.specs.Version.{TableView, FiveNumbers, VersionView, version_of}
use Rattle.pb_version.specs.Snapshot.{snapshot_of}
use Rattle.pb_version.specs.Fold.{FoldsTo}
use Rattle.pb_version.specs.State.{IsVersion, IsSpellable}
use Rattle.pb_version.proofs.SnapshotRules.{snapshot_folds}
use Rattle.pb_version.proofs.SnapshotSpelling.{snapshot_spellable, snapshot_in_form}
use Rattle.pb_version.proofs.version.Version.snapshot.Goals as goal

-- the edit of what the slices hold is the snapshot of the version
snapshot_is : {edit : VersionEdit} {levels : List (List TableView)} {bs cs : List CreatedItem} {five : FiveNumbers} {v : VersionView} →
    edit ≡ snapshot_of (version_of levels bs five) → bs ≡ cs → version_of levels cs five ≡ v → snapshot_of v ≡ edit
snapshot_is {levels = levels} {five = five} made backings is = sym (made ∙ (λ i. snapshot_of (version_of levels (backings i) five)) ∙ ap snapshot_of is)

pub returns-clause-folds : goal.returns-clause-folds
returns-clause-folds c = λ begun.
    subst (λ (e : VersionEdit). FoldsTo (e ∷ []) c.args.self.now)
    (snapshot_is c.in_ok-edit.ensures.ok c.as_slice.ensures.value c.self.view_is)
    (snapshot_folds c.args.self.now (subst IsVersion c.self.view_is c.self.invariant) begun)

pub returns-clause-spellable : goal.returns-clause-spellable
returns-clause-spellable c =
    subst IsSpellable
    (snapshot_is c.in_ok-edit.ensures.ok c.as_slice.ensures.value c.self.view_is)
    (snapshot_spellable c.args.self.now (subst IsVersion c.self.view_is c.self.invariant))

pub returns-clause-in_form : goal.returns-clause-in_form
returns-clause-in_form c =
    subst IsEdit
    (snapshot_is c.in_ok-edit.ensures.ok c.as_slice.ensures.value c.self.view_is)
    (snapshot_in_form c.args.self.now (subst IsVersion c.self.view_is c.self.invariant))
