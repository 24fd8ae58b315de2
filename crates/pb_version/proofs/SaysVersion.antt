-- What payloads say is a version.
use Rattle.std.proofs.Common.{ℕ, List, [], ◌∷◌, refl, subst, arith}
use Rattle.std.proofs.lemmas.List.Elements.{recursion_from_All}
use Rattle.std.specs.List.{AllByRecursion}
use Rattle.pb_edit.specs.Edit.{VersionEdit}
use Rattle.pb_edit.specs.Grammar.{IsEdit}
use Rattle.pb_version.specs.Version.{VersionView, empty_version}
use Rattle.pb_version.specs.Edited.{edited}
use Rattle.pb_version.specs.State.{IsVersion}
use Rattle.pb_version.specs.Fold.{FoldsFrom}
use Rattle.pb_version.specs.SaysVersion.{SaysVersion}
use Rattle.pb_version.proofs.Installing.{edited_is_version}
use Rattle.pb_version.proofs.Spelling.{spellable_edit}

pub empty_is_version : IsVersion empty_version
empty_is_version = record {
  levels = refl;
  numbered = refl;
  views = refl;
  apart = refl;
  fits = refl;
  few = refl;
  sorted = refl;
  formed = refl;
  free = refl;
  below = refl;
  ascend = refl;
  backings_below = refl;
  backed = refl;
  shown = refl;
  numbers = record { accepted = omega arith; next = omega arith; log = omega arith; flushed = omega arith; format = omega arith };
  sizes = tt;
  backing_sizes = tt;
}

folds_to_version : (old : VersionView) (edits : List VersionEdit) (v : VersionView) → IsVersion old → AllByRecursion IsEdit edits → FoldsFrom old edits v → IsVersion v
folds_to_version old [] v is all folds = subst IsVersion folds is
folds_to_version old (e ∷ es) v is all folds =
    folds_to_version (edited old e) es v (edited_is_version old e (spellable_edit e all.0) is folds.0) all.1 folds.1

pub says_a_version : (payloads : List (List ℕ)) (v : VersionView) → SaysVersion payloads v → IsVersion v
says_a_version payloads v says = folds_to_version empty_version says.edits v empty_is_version (recursion_from_All IsEdit says.edits says.in_form) says.folds.folds
