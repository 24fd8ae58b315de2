-- The version that edits fold to, one after the other.
use Rattle.std.specs.Prelude.{◌≡◌, List, [], ◌∷◌, None}
use Rattle.pb_edit.specs.Edit.{VersionEdit}
use Rattle.pb_version.specs.Version.{VersionView, empty_version}
use Rattle.pb_version.specs.Edited.{edited}
use Rattle.pb_version.specs.Rules.{first_broken}

-- each edit breaks no rule of the version that those before it fold to
abbrev pub FoldsFrom : VersionView → List VersionEdit → VersionView → Type 0
FoldsFrom old [] new = old ≡ new
FoldsFrom old (edit ∷ later) new = (first_broken old edit ≡ None) × FoldsFrom (edited old edit) later new

-- there is an edit, and from nothing on they fold to this version
pub record FoldsTo (edits : List VersionEdit) (version : VersionView) : Type 0 where
  pub some : ¬ (edits ≡ [])
  pub folds : FoldsFrom empty_version edits version
