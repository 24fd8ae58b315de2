-- What a call that is made, or that failed, leaves elsewhere, of the form of names, and of the step that it is.
use Rattle.std.proofs.Common.{◌≡◌, ℕ, false, ◌⊎◌, inl, inr, Some, None, List, refl, sym, ap, ◌∙◌, subst}
use Rattle.std.specs.Prelude.{Result, Ok, Err}
use Rattle.std.specs.FinMap.{get, get-insert, get-remove}
use Rattle.std.specs.Cmp.Lexicographic.{nat_list_cmp_total}
use Rattle.std.proofs.lemmas.Bool.{cond-false, false_from_ne_true}
use Rattle.pb_devices.specs.Objects.{Objects}
use Rattle.pb_marker_world.specs.Machine.{Entry, Local}
use Rattle.pb_marker_world.specs.Steps.{Step}
use Rattle.pb_marker_world.specs.Bucket.{shown_names, IsInForm, NamesInForm}
use Rattle.pb_marker_world.proofs.BucketLemmas.{is_name, same_name, form_put, form_deleted}
use Rattle.pb_markers.specs.Call.{Call, name_called, objects_after, IsMade, IsStep, StaysElsewhere, StepsTo}
use Rattle.pb_markers.specs.Call.Call.{PutsBytes, LooksFor, CountsWith, DeletesName}

-- the call is made, or nothing has changed
made_or : {T E : Type 0} (call : Call) (before after : Objects) (result : Result T E) → IsMade call before after result
    → (after ≡ objects_after call before) ⊎ (after ≡ before)
made_or call before after (Ok answer) made = inl made
made_or call before after (Err error) made = made

-- a call that changes nothing is made, whatever it answers, where nothing has changed
pub same_made : {T E : Type 0} (call : Call) (before after : Objects) (result : Result T E) → objects_after call before ≡ before
    → after ≡ before → IsMade call before after result
same_made call before after (Ok answer) still same = same ∙ sym still
same_made call before after (Err error) still same = inr same

-- ---- elsewhere

other_name : (q name : List ℕ) → (q ≡ name → ⊥) → is_name q name ≡ false
other_name q name apart = false_from_ne_true (is_name q name) (λ x. apart (same_name q name x))

elsewhere_after : (call : Call) (before : Objects) (q : List ℕ) → (q ≡ name_called call → ⊥)
    → get (objects_after call before) q ≡ get before q
elsewhere_after (PutsBytes name bytes) before q apart =
    get-insert nat_list_cmp_total before name bytes q
    ∙ cond-false (is_name q name) (Some bytes) (get before q) (other_name q name apart)
elsewhere_after (LooksFor name) before q apart = refl
elsewhere_after (CountsWith prefix) before q apart = refl
elsewhere_after (DeletesName name) before q apart =
    get-remove nat_list_cmp_total before name q ∙ cond-false (is_name q name) None (get before q) (other_name q name apart)

pub elsewhere_made : {T E : Type 0} (call : Call) (before after : Objects) (result : Result T E) → IsMade call before after result
    → StaysElsewhere call before after
elsewhere_made call before after result made q apart =
    elim (made_or call before after result made) [
      | inl x ↦ ap (λ y. get y q) x ∙ elsewhere_after call before q apart
      | inr x ↦ ap (λ y. get y q) x
    ]

-- ---- names in form

-- what is put is in form
abbrev pub PutsInForm : Call → Type 0
PutsInForm (PutsBytes name bytes) = IsInForm name
PutsInForm (LooksFor name) = Unit {0}
PutsInForm (CountsWith prefix) = Unit {0}
PutsInForm (DeletesName name) = Unit {0}

form_after : (call : Call) (before : Objects) → PutsInForm call → NamesInForm before → NamesInForm (objects_after call before)
form_after (PutsBytes name bytes) before form each = form_put before name bytes (λ _. form) each
form_after (LooksFor name) before form each = each
form_after (CountsWith prefix) before form each = each
form_after (DeletesName name) before form each = form_deleted before name name each

pub form_made : {T E : Type 0} (call : Call) (before after : Objects) (result : Result T E) → IsMade call before after result
    → PutsInForm call → NamesInForm before → NamesInForm after
form_made call before after result made form each =
    elim (made_or call before after result made) [
      | inl x ↦ subst NamesInForm (sym x) (form_after call before form each)
      | inr x ↦ subst NamesInForm (sym x) each
    ]

-- ---- the step

pub step_made : {T E : Type 0} (call : Call) (before after : Objects) (result : Result T E) → IsMade call before after result
    → (store : ℕ) (l : Local) (number : ℕ) (step : Step) (entry : Entry) → StepsTo store l number step entry (objects_after call before)
    → IsStep store l number step entry before after result
step_made call before after (Ok answer) made store l number step entry row =
    subst (λ x. StepsTo store l number step entry x) (sym made) row
step_made call before after (Err error) made store l number step entry row =
    elim made [
      | inl x ↦ inl (subst (λ y. StepsTo store l number step entry y) (sym x) row)
      | inr x ↦ inr (ap shown_names x)
    ]
