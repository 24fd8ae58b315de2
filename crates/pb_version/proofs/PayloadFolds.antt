-- What the payloads of a manifest that are left say, behind the edits that were applied.
use Rattle.std.proofs.Common.{◌≡◌, ℕ, List, [], ◌∷◌, map, Result, Ok, Err, IfOk, refl, sym, ap, ◌∙◌, subst}
use Rattle.std.proofs.lemmas.List.Elements.{All-nil, All-cons, All-head, All-tail}
use Rattle.std.specs.List.{All}
use Rattle.std.specs.Prelude.{None}
use Rattle.pb_keys.proofs.Lists.{head_of, tail_of}
use Rattle.pb_edit.specs.Edit.{VersionEdit}
use Rattle.pb_edit.specs.Grammar.{IsEdit, edit_spelling}
use Rattle.pb_edit.proofs.Edits.{one_edit}
use Rattle.pb_version.specs.Version.{VersionView, empty_version}
use Rattle.pb_version.specs.Edited.{edited}
use Rattle.pb_version.specs.Rules.{first_broken}
use Rattle.pb_version.specs.Fold.{FoldsFrom}
use Rattle.pb_version.specs.SaysVersion.{SaysVersion}
use Rattle.pb_version.specs.Follows.{Follows}

-- the item that is read, and what it was made, stand first among those that are left
-- a list that was found not to be empty
pub if_ok : {T E : Type 0} (r : Result T E) (P Q : T → Type 0) → ((x : T) → P x → Q x) → IfOk r P → IfOk r Q
if_ok (Ok x) P Q f h = f x h
if_ok (Err e) P Q f h = h

-- ---- one edit on

-- the payloads are edits, and from the old version on these fold to the new one
pub record FoldsOn (old : VersionView) (payloads : List (List ℕ)) (new : VersionView) : Type 0 where
  pub edits : List VersionEdit
  pub spelled : payloads ≡ map edit_spelling edits
  pub in_form : All IsEdit edits
  pub folds : FoldsFrom old edits new

folds_behind : (payload : List ℕ) (rest : List (List ℕ)) (old mid new : VersionView) → Follows payload old mid → FoldsOn mid rest new
    → FoldsOn old (payload ∷ rest) new
folds_behind payload rest old mid new follows on = record {
  edits = follows.edit ∷ on.edits;
  spelled = λ i. follows.spelled i ∷ on.spelled i;
  in_form = All-cons IsEdit follows.edit on.edits follows.in_form on.in_form;
  folds = (follows.unbroken, subst (λ (v : VersionView). FoldsFrom v on.edits new) follows.after on.folds);
}

-- the first of the payloads is an edit that breaks no rule, and the others go on from there
pub record NextEdit (payload : List ℕ) (rest : List (List ℕ)) (old new : VersionView) : Type 0 where
  pub edit : VersionEdit
  pub in_form : IsEdit edit
  pub spelled : payload ≡ edit_spelling edit
  pub unbroken : first_broken old edit ≡ None
  pub later : FoldsOn (edited old edit) rest new

next_among : (payload : List ℕ) (rest : List (List ℕ)) (old new : VersionView) (edits : List VersionEdit) → payload ∷ rest ≡ map edit_spelling edits
    → All IsEdit edits → FoldsFrom old edits new → NextEdit payload rest old new
next_among payload rest old new [] spelled in_form folds = cc
next_among payload rest old new (edit ∷ edits) spelled in_form folds = record {
  edit = edit;
  in_form = All-head IsEdit edit edits in_form;
  spelled = head_of payload (edit_spelling edit) rest (map edit_spelling edits) spelled;
  unbroken = folds.0;
  later = record {
    edits = edits;
    spelled = tail_of payload (edit_spelling edit) rest (map edit_spelling edits) spelled;
    in_form = All-tail IsEdit edit edits in_form;
    folds = folds.1;
  };
}

pub next_edit : (payload : List ℕ) (rest : List (List ℕ)) (old new : VersionView) → FoldsOn old (payload ∷ rest) new → NextEdit payload rest old new
next_edit payload rest old new on = next_among payload rest old new on.edits on.spelled on.in_form on.folds

-- ---- all of them, and those that are left

-- the payloads that are left make of the version now what all make of the first
pub record AlikeOn (first now : VersionView) (payloads left : List (List ℕ)) : Type 0 where
  pub all : (new : VersionView) → FoldsOn now left new → FoldsOn first payloads new
  pub back : (new : VersionView) → FoldsOn first payloads new → FoldsOn now left new

pub alike_more : (first old mid : VersionView) (payloads : List (List ℕ)) (payload : List ℕ) (rest : List (List ℕ))
    → AlikeOn first old payloads (payload ∷ rest) → Follows payload old mid → AlikeOn first mid payloads rest
alike_more first old mid payloads payload rest alike follows = record {
  all = λ new on. alike.all new (folds_behind payload rest old mid new follows on);
  back = λ new on.
      let next = next_edit payload rest old new (alike.back new on) in
      let same = one_edit next.edit follows.edit next.in_form follows.in_form (sym next.spelled ∙ follows.spelled) in
      subst (λ (v : VersionView). FoldsOn v rest new) (ap (edited old) same ∙ sym follows.after) next.later;
}

pub none_left : (version : VersionView) → FoldsOn version [] version
none_left version = record { edits = []; spelled = refl; in_form = All-nil IsEdit; folds = refl }

-- ---- what they say

pub on_says : (payloads : List (List ℕ)) (version : VersionView) → (payloads ≡ [] → ⊥) → FoldsOn empty_version payloads version → SaysVersion payloads version
on_says payloads version some on = record {
  edits = on.edits;
  spelled = on.spelled;
  in_form = on.in_form;
  folds = record { some = λ none. some (on.spelled ∙ ap (map edit_spelling) none); folds = on.folds };
}

pub says_on : (payloads : List (List ℕ)) (version : VersionView) → SaysVersion payloads version → FoldsOn empty_version payloads version
says_on payloads version says = record { edits = says.edits; spelled = says.spelled; in_form = says.in_form; folds = says.folds.folds }
