-- What stands in the folder while a manifest is made.
use Rattle.std.proofs.Common.{◌≡◌, ◌≤◌, ◌<◌, ◌⊎◌, ◌^◌, ℕ, List, [], ◌∷◌, ◌++◌, true, Option, Some, None, IfSome, length, sym, ap, ◌∙◌, subst, inl, inr, arith}
use Rattle.std.specs.Prelude.{is_some}
use Rattle.std.specs.Option.{unwrap_or}
use Rattle.pb_devices.specs.Contents.{Contents, Folder, MayLeave, IsImage, IsSettled, KeepsOthers}
use Rattle.pb_devices.proofs.Images.{settled_image}
use Rattle.pb_devices.proofs.Kept.{kept_but_more, kept_but_same, kept_but_then}
use Rattle.pb_edit.specs.Edit.{VersionEdit}
use Rattle.pb_edit.specs.Grammar.{IsEdit, edit_spelling}
use Rattle.pb_gate_log.specs.EachLog.{LogPlace, EachLog}
use Rattle.pb_gate_log.specs.Payloads.{HasList, payloads_in}
use Rattle.pb_gate_log.proofs.LogStates.{each_has, each_kept}
use Rattle.pb_names.specs.Spelling.{current_name}
use Rattle.pb_payloads.specs.Current.{IsPointer, pointer_spelling, pointer_to}
use Rattle.pb_payloads.proofs.CurrentLaws.{current_holds}
use Rattle.pb_version.specs.Version.{empty_version}
use Rattle.pb_version.specs.Edited.{edited}
use Rattle.pb_version.specs.Rules.{first_broken}
use Rattle.pb_manifest.specs.Manifest.{manifest_name, SaysFolder, EachManifest, KeepsAllBut}
use Rattle.pb_manifest.specs.Steps.{IsLogOf}
use Rattle.pb_manifest.proofs.Folders.{apart, says_of}
use Rattle.pb_version.proofs.SaysLaws.{says_first}
use Rattle.pb_manifest.proofs.Kept.{first_has_next}

-- ---- the number that the first edit reserves

reaches : (reserved : Option ℕ) (next : ℕ) → is_some reserved ≡ true → IfSome reserved (λ end. next ≤ end) → next ≤ unwrap_or reserved 0
reaches None next some within = cc
reaches (Some end) next some within = within

is_low : (reserved : Option ℕ) (number next : ℕ) → is_some reserved ≡ true → IfSome reserved (λ end. next ≤ end)
    → IfSome reserved (λ end. end < 2 ^ 62) → number < next → number < 2 ^ 62
is_low None number next some within bound below = cc
is_low (Some end) number next some within bound below = omega arith

pub first_drawn : (edit : VersionEdit) (next : ℕ) → first_broken empty_version edit ≡ None → IfSome edit.next (λ end. next ≤ end)
    → next ≤ (edited empty_version edit).five.next
unfolding edited
first_drawn edit next unbroken within = reaches edit.next next (first_has_next edit unbroken) within

pub first_low : (edit : VersionEdit) (number next : ℕ) → first_broken empty_version edit ≡ None → IsEdit edit
    → IfSome edit.next (λ end. next ≤ end) → number < next → number < 2 ^ 62
first_low edit number next unbroken is within below = is_low edit.next number next (first_has_next edit unbroken) within is.next below

-- ---- names that are left alone

pub one_kept : (old new : Contents) (one two : List ℕ) → KeepsOthers old new one → KeepsAllBut old new one two
one_kept old new one two kept =
    kept_but_more (λ other. other ≡ one) (λ other. (other ≡ one) ⊎ (other ≡ two)) old new (λ other is. inl is) kept

pub both_kept : (old mid new : Contents) (one two : List ℕ) → KeepsOthers old mid one → KeepsOthers mid new two
    → KeepsAllBut old new one two
both_kept old mid new one two a b =
    kept_but_then (λ other. (other ≡ one) ⊎ (other ≡ two)) old mid new (one_kept old mid one two a)
    (kept_but_more (λ other. other ≡ two) (λ other. (other ≡ one) ⊎ (other ≡ two)) mid new (λ other is. inr is) b)

pub none_kept : (disk : Contents) (one two : List ℕ) → KeepsAllBut disk disk one two
none_kept disk one two = kept_but_same (λ other. (other ≡ one) ⊎ (other ≡ two)) disk

-- ---- the manifest first, and then the current pointer

pub payloads_before : (disk : Contents) (image : Option (List ℕ)) → IsSettled disk current_name → MayLeave disk current_name image
    → payloads_in image ≡ payloads_in (disk.seen current_name)
payloads_before disk image settled left = ap payloads_in (settled_image disk current_name image settled left)

module _ (number : ℕ) (low : number < 2 ^ 62) (old mid : Contents) (made : KeepsOthers old mid (manifest_name number))
    (settled : IsSettled old current_name) where
  pub still_settled : IsSettled mid current_name
  still_settled = (made current_name (apart number low)).settled settled

  pub seen_before : mid.seen current_name ≡ old.seen current_name
  seen_before = (made current_name (apart number low)).reads

  pub image_before : (image : Option (List ℕ)) → MayLeave mid current_name image → payloads_in image ≡ payloads_in (old.seen current_name)
  image_before image left = payloads_before old image settled ((made current_name (apart number low)).images image left)

-- each image has the pointer of before, or both logs whole
pub pointed : (number : ℕ) → number < 2 ^ 62 → (log : LogPlace) (edit pointer : List ℕ) (old mid new : Contents)
    → IsLogOf (manifest_name number) (edit ∷ []) log mid → mid.seen current_name ≡ old.seen current_name
    → KeepsOthers mid new current_name → (folder : Folder) → IsImage new folder
    → (payloads_in (folder current_name) ≡ payloads_in (mid.seen current_name)) ⊎ HasList
    (payloads_in (mid.seen current_name) ++ pointer ∷ []) (folder current_name)
    → (payloads_in (folder current_name) ≡ payloads_in (old.seen current_name))
    ⊎ (HasList (payloads_in (old.seen current_name) ++ pointer ∷ []) (folder current_name) × HasList (edit ∷ [])
    (folder (manifest_name number)))
pointed number low log edit pointer old mid new is seen kept folder image left =
    let name = manifest_name number in
    let before = (kept name (λ same. apart number low (sym same))).images (folder name) (image name) in
    elim left [
      | inl same ↦ inl (same ∙ ap payloads_in seen)
      | inr has ↦ inr (
        subst (λ (file : Option (List ℕ)). HasList (payloads_in file ++ pointer ∷ []) (folder current_name)) seen has,
        each_has log (edit ∷ []) mid is.each (folder name) (subst (λ (n : List ℕ). MayLeave mid n (folder name)) (sym is.name) before),
      )
    ]

pub still_log : (number : ℕ) → number < 2 ^ 62 → (log : LogPlace) (list : List (List ℕ)) (mid new : Contents)
    → KeepsOthers mid new current_name → IsLogOf (manifest_name number) list log mid → IsLogOf (manifest_name number) list log new
still_log number low log list mid new kept is = record {
  name = is.name;
  each = each_kept log list mid new current_name (λ same. apart number low (sym same ∙ is.name)) kept is.each;
}

-- ---- a manifest of one edit

module _ (number catalogue next : ℕ) (edit : VersionEdit) (spelling pointer : List ℕ) (in_form : IsEdit edit)
    (unbroken : first_broken empty_version edit ≡ None) (spelled : spelling ≡ edit_spelling edit)
    (pointer_is : pointer ≡ pointer_spelling (pointer_to number catalogue)) (low : number < 2 ^ 62)
    (catalogue_low : catalogue < 2 ^ 62) where
  pointer_form : IsPointer (pointer_to number catalogue)
  pointer_form = record { manifest = low; catalogue = catalogue_low }

  pub whole_or_before : (before : List (List ℕ)) (folder : Folder) → HasList (before ++ pointer ∷ []) (folder current_name)
      → HasList (spelling ∷ []) (folder (manifest_name number)) → SaysFolder number catalogue (edited empty_version edit) folder
  whole_or_before before folder has_current has_edit =
      says_of number catalogue (edited empty_version edit) folder (before ++ pointer_spelling (pointer_to number catalogue) ∷ [])
      (edit_spelling edit ∷ [])
      (subst (λ (p : List ℕ). HasList (before ++ p ∷ []) (folder current_name)) pointer_is has_current)
      (current_holds before (pointer_to number catalogue) pointer_form)
      (subst (λ (s : List ℕ). HasList (s ∷ []) (folder (manifest_name number))) spelled has_edit)
      (says_first edit in_form unbroken)

  pub made_whole : (log current : LogPlace) (before : List (List ℕ)) (disk : Contents)
      → IsLogOf (manifest_name number) (spelling ∷ []) log disk → IsLogOf current_name (before ++ pointer ∷ []) current disk
      → IfSome edit.next (λ end. next ≤ end) → number < next
      → EachManifest (record { number = number; catalogue = catalogue; next = next; first = length spelling; log = log; current = current })
      (edited empty_version edit) disk
  made_whole log current before disk log_is current_is within below = record {
    pointers = before ++ pointer_spelling (pointer_to number catalogue) ∷ [];
    current = subst (λ (p : List ℕ). EachLog current (before ++ p ∷ []) disk) pointer_is current_is.each;
    current_file = current_is.name;
    names = current_holds before (pointer_to number catalogue) pointer_form;
    edits = edit_spelling edit ∷ [];
    log = subst (λ (s : List ℕ). EachLog log (s ∷ []) disk) spelled log_is.each;
    log_file = log_is.name;
    says = says_first edit in_form unbroken;
    first_is = ap length spelled;
    drawn = first_drawn edit next unbroken within;
    own = let reached = first_drawn edit next unbroken within in omega arith;
  }
