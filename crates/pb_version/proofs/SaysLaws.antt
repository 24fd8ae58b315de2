-- The payloads of a manifest say one version, and one more edit makes them say the next.
use Rattle.std.proofs.Common.{◌≡◌, ℕ, List, [], ◌∷◌, ◌++◌, None, refl, sym, ap, ◌∙◌, subst}
use Rattle.std.proofs.lemmas.List.{map-append}
use Rattle.std.proofs.lemmas.List.Elements.{All-nil, All-push}
use Rattle.pb_bytes.proofs.Lists.{one_list}
use Rattle.pb_edit.specs.Edit.{VersionEdit}
use Rattle.pb_edit.specs.Grammar.{IsEdit, edit_spelling}
use Rattle.pb_edit.proofs.Edits.{one_edit}
use Rattle.pb_version.specs.Version.{VersionView, empty_version}
use Rattle.pb_version.specs.Edited.{edited}
use Rattle.pb_version.specs.Rules.{first_broken}
use Rattle.pb_version.specs.Fold.{FoldsTo}
use Rattle.pb_version.specs.SaysVersion.{SaysVersion}
use Rattle.pb_version.proofs.FoldLaws.{folds_first, folds_further, folds_to_one}

pub one_version : (payloads : List (List ℕ)) (one other : VersionView) → SaysVersion payloads one → SaysVersion payloads other → one ≡ other
one_version payloads one other a b =
    let same = one_list IsEdit edit_spelling one_edit a.edits b.edits a.in_form b.in_form (sym a.spelled ∙ b.spelled) in
    folds_to_one a.edits one other a.folds (subst (λ (edits : List VersionEdit). FoldsTo edits other) (sym same) b.folds)

-- payloads that say a version, and an edit behind them that breaks none of its rules, say the version after it
pub says_more : (payloads : List (List ℕ)) (version : VersionView) (edit : VersionEdit) → SaysVersion payloads version → IsEdit edit
    → first_broken version edit ≡ None → SaysVersion (payloads ++ edit_spelling edit ∷ []) (edited version edit)
says_more payloads version edit says in_form unbroken = record {
  edits = says.edits ++ edit ∷ [];
  spelled = ap (λ (front : List (List ℕ)). front ++ edit_spelling edit ∷ []) says.spelled ∙ sym (map-append edit_spelling says.edits (edit ∷ []));
  in_form = All-push IsEdit says.edits edit says.in_form in_form;
  folds = folds_further says.edits version edit says.folds unbroken;
}

pub says_first : (edit : VersionEdit) → IsEdit edit → first_broken empty_version edit ≡ None → SaysVersion (edit_spelling edit ∷ []) (edited empty_version edit)
says_first edit in_form unbroken = record {
  edits = edit ∷ [];
  spelled = refl;
  in_form = All-push IsEdit [] edit (All-nil IsEdit) in_form;
  folds = folds_first edit unbroken;
}
