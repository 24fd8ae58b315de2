use Rattle.std.proofs.Common.{◌≡◌, false, Option, None, IfSome, sym, ap, ◌∙◌, subst, inl, inr}
use Rattle.pb_edit.specs.Edit.{VersionEdit}
use Rattle.pb_edit.specs.Grammar.{IsEdit, edit_spelling}
use Rattle.pb_edit.proofs.Edits.{one_edit}
use Rattle.pb_version.specs.declared.broken.Broken.TheVariants.{NoMemory}
use Rattle.pb_version.proofs.Spelling.{spellable_edit}
use Rattle.pb_version.specs.Rules.{first_broken}
use Rattle.pb_version.proofs.PayloadFolds.{if_ok}
use Rattle.pb_version.proofs.payloads.follow.Goals as goal

pub apply-requires : goal.apply-requires
apply-requires c =
    let payload = c.args.payload.now in
    let found : IsEdit c.in-Some.edit × (payload ≡ edit_spelling c.in-Some.edit) =
    subst (λ (o : Option VersionEdit). IfSome o (λ e. IsEdit e × (payload ≡ edit_spelling e))) c.in-Some.is c.in_ok-edit.ensures.found in
    spellable_edit c.in-Some.edit found.0

pub returns-clause-no : goal.returns-clause-no
returns-clause-no c =
    let payload = c.args.payload.now in
    let version = c.args.version.now in
    let found : IsEdit c.in-Some.edit × (payload ≡ edit_spelling c.in-Some.edit) =
    subst (λ (o : Option VersionEdit). IfSome o (λ e. IsEdit e × (payload ≡ edit_spelling e))) c.in-Some.is c.in_ok-edit.ensures.found in
    if_ok c.refused.result (λ applied. (applied ≡ false) × (c.in-Err.broken ≡ NoMemory → ⊥))
    (λ applied. applied ≡ false → (edit : VersionEdit) → IsEdit edit → payload ≡ edit_spelling edit → first_broken version edit ≡ None → ⊥)
    (λ applied is none edit in_form spelled unbroken.
    let same = one_edit edit c.in-Some.edit in_form found.0 (sym spelled ∙ found.1) in
    let kept : first_broken version c.in-Some.edit ≡ None = ap (λ (e : VersionEdit). first_broken version e) (sym same) ∙ unbroken in
    elim c.in-Err.ensures.broken [
      | inl memory ↦ is.1 memory
      | inr rule ↦ cc
    ])
    c.refused.ensures
