-- The edit that makes the first version.
use Rattle.std.proofs.Common.{◌≡◌, [], Some, None, inl, inr, refl, ap, ◌∙◌, subst, arith}
use Rattle.std.specs.Prelude.{◌⊎◌}
use Rattle.pb_devices.specs.Contents.{Folder}
use Rattle.pb_edit.specs.Edit.{VersionEdit}
use Rattle.pb_edit.specs.Grammar.{IsEdit, edit_spelling}
use Rattle.pb_manifest.specs.Manifest.{SaysFolder}
use Rattle.pb_version.specs.Edited.{edited}
use Rattle.pb_version.specs.Rules.{first_broken}
use Rattle.pb_version.specs.Version.{VersionView, empty_version}
use Rattle.pb_version.specs.declared.broken.Broken.{Broken}
use Rattle.pb_recover.specs.Calls.{first_edit}
use Rattle.pb_recover.specs.First.{first_version}

no_first : edit_spelling first_edit ≡ [] → ⊥
unfolding edit_spelling
no_first none = cc

pub first_is_edit : IsEdit first_edit
first_is_edit = record {
  some = no_first;
  accepted = omega arith;
  next = omega arith;
  log = omega arith;
  flushed = omega arith;
  format = omega arith;
  deleted = record { each = tt; ascend = tt };
  physical = record { each = tt; ascend = tt };
  virtuals = record { each = tt; ascend = tt };
  created = record { each = tt; ascend = tt };
  removed = record { each = tt; ascend = tt };
}

pub first_made : edited empty_version first_edit ≡ first_version
unfolding edited
first_made = refl

-- it breaks no rule
pub first_unbroken : first_broken empty_version first_edit ≡ None
unfolding first_broken edited
first_unbroken = refl

pub first_or_same : (folder : Folder) (Same : Type 0) (first : VersionEdit) → first ≡ first_edit
    → Same ⊎ SaysFolder 1 2 (edited empty_version first) folder → Same ⊎ SaysFolder 1 2 first_version folder
first_or_same folder Same first is (inl same) = inl same
first_or_same folder Same first is (inr says) =
    inr (subst (λ (v : VersionView). SaysFolder 1 2 v folder) (ap (edited empty_version) is ∙ first_made) says)

pub never_broken : (first : VersionEdit) (rule : Broken) → first ≡ first_edit → first_broken empty_version first ≡ Some rule → ⊥
never_broken first rule is some =
    let none : first_broken empty_version first ≡ None = ap (first_broken empty_version) is ∙ first_unbroken in
    cc
