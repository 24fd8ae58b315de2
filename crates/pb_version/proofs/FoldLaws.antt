-- What edits fold to is one version, and one more edit takes it further.
use Rattle.std.proofs.Common.{◌≡◌, List, [], ◌∷◌, ◌++◌, ap, sym, ◌∙◌, subst}
use Rattle.std.specs.Prelude.{None}
use Rattle.pb_edit.specs.Edit.{VersionEdit}
use Rattle.pb_version.specs.Version.{VersionView, empty_version}
use Rattle.pb_version.specs.Edited.{edited}
use Rattle.pb_version.specs.Rules.{first_broken}
use Rattle.pb_version.specs.Fold.{FoldsFrom, FoldsTo}

pub folds_push : (old : VersionView) (edits : List VersionEdit) (version : VersionView) (edit : VersionEdit) →
    FoldsFrom old edits version → first_broken version edit ≡ None → FoldsFrom old (edits ++ edit ∷ []) (edited version edit)
folds_push old [] version edit folds unbroken =
    (subst (λ v. first_broken v edit ≡ None) (sym folds) unbroken, ap (λ v. edited v edit) folds)
folds_push old (e ∷ es) version edit folds unbroken = (folds.0, folds_push (edited old e) es version edit folds.1 unbroken)

folds_one : (old : VersionView) (edits : List VersionEdit) (a b : VersionView) → FoldsFrom old edits a → FoldsFrom old edits b → a ≡ b
folds_one old [] a b f g = sym f ∙ g
folds_one old (e ∷ es) a b f g = folds_one (edited old e) es a b f.1 g.1

not_nothing : (edits : List VersionEdit) (edit : VersionEdit) → ¬ (edits ++ edit ∷ [] ≡ [])
not_nothing [] edit = λ e. cc
not_nothing (d ∷ ds) edit = λ e. cc

pub folds_first : (edit : VersionEdit) → first_broken empty_version edit ≡ None → FoldsTo (edit ∷ []) (edited empty_version edit)
folds_first edit unbroken = record { some = not_nothing [] edit; folds = folds_push empty_version [] empty_version edit (λ i. empty_version) unbroken }

pub folds_further : (edits : List VersionEdit) (version : VersionView) (edit : VersionEdit) →
    FoldsTo edits version → first_broken version edit ≡ None → FoldsTo (edits ++ edit ∷ []) (edited version edit)
folds_further edits version edit is unbroken = record { some = not_nothing edits edit; folds = folds_push empty_version edits version edit is.folds unbroken }

pub folds_to_one : (edits : List VersionEdit) (a b : VersionView) → FoldsTo edits a → FoldsTo edits b → a ≡ b
folds_to_one edits a b f g = folds_one empty_version edits a b f.folds g.folds
