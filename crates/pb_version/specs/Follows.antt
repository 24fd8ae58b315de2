-- One payload of a manifest more.
use Rattle.std.specs.Prelude.{◌≡◌, ℕ, List, None}
use Rattle.pb_edit.specs.Edit.{VersionEdit}
use Rattle.pb_edit.specs.Grammar.{IsEdit, edit_spelling}
use Rattle.pb_version.specs.Edited.{edited}
use Rattle.pb_version.specs.Rules.{first_broken}
use Rattle.pb_version.specs.Version.{VersionView}

-- the payload is an edit that breaks no rule of the old version, and makes the new one of it
pub record Follows (payload : List ℕ) (old new : VersionView) : Type 0 where
  pub edit : VersionEdit
  pub in_form : IsEdit edit
  pub spelled : payload ≡ edit_spelling edit
  pub unbroken : first_broken old edit ≡ None
  pub after : new ≡ edited old edit
