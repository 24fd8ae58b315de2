-- What the payloads of a manifest say.
use Rattle.std.specs.Prelude.{◌≡◌, ℕ, List, All, map}
use Rattle.pb_edit.specs.Edit.{VersionEdit}
use Rattle.pb_edit.specs.Grammar.{IsEdit, edit_spelling}
use Rattle.pb_version.specs.Version.{VersionView}
use Rattle.pb_version.specs.Fold.{FoldsTo}

-- the payloads are edits, and these fold to the version
pub record SaysVersion (payloads : List (List ℕ)) (version : VersionView) : Type 0 where
  pub edits : List VersionEdit
  pub spelled : payloads ≡ map edit_spelling edits
  pub in_form : All IsEdit edits
  pub folds : FoldsTo edits version
