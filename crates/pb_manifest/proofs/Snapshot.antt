-- A snapshot says its version alone, and is short.
use Rattle.std.proofs.Common.{◌≡◌, ℕ, ◌≤◌, List, [], ◌∷◌, length, ap, ◌∙◌, sym, subst}
use Rattle.std.proofs.lemmas.List.Elements.{All-nil, All-push}
use Rattle.pb_edit.specs.Edit.{VersionEdit}
use Rattle.pb_edit.specs.Grammar.{IsEdit, edit_spelling}
use Rattle.pb_version.specs.Fold.{FoldsTo}
use Rattle.pb_version.specs.SaysVersion.{SaysVersion}
use Rattle.pb_version.specs.Snapshot.{snapshot_of}
use Rattle.pb_version.specs.Version.{VersionView}
use Rattle.pb_version.proofs.SaysVersion.{says_a_version}
use Rattle.pb_version.proofs.Short as short

pub snapshot_says : (version : VersionView) (snapshot : VersionEdit) (payload : List ℕ) → FoldsTo (snapshot ∷ []) version → IsEdit snapshot
    → payload ≡ edit_spelling snapshot → SaysVersion (payload ∷ []) version
snapshot_says version snapshot payload folds in_form spelled = record {
  edits = snapshot ∷ [];
  spelled = ap (λ (p : List ℕ). p ∷ []) spelled;
  in_form = All-push IsEdit [] snapshot (All-nil IsEdit) in_form;
  folds = folds;
}

pub snapshot_short : (version : VersionView) (snapshot : VersionEdit) (payload : List ℕ) → FoldsTo (snapshot ∷ []) version → IsEdit snapshot
    → snapshot ≡ snapshot_of version → payload ≡ edit_spelling snapshot → length payload ≤ 18874368
snapshot_short version snapshot payload folds in_form is spelled =
    subst (λ (p : List ℕ). length p ≤ 18874368) (sym (spelled ∙ ap edit_spelling is))
    (short.snapshot_short version (says_a_version (payload ∷ []) version (snapshot_says version snapshot payload folds in_form spelled)))
