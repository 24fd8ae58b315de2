-- Files with one list of payloads, and what holds of each number that a version stores.
use Rattle.std.proofs.Common.{◌≡◌, ℕ, List, Option, Some, None, get_or, true, refl, sym, ◌∙◌, eq-eqb}
use Rattle.std.specs.Prelude.{◌==◌}
use Rattle.std.specs.List.{All, list_any}
use Rattle.std.proofs.lemmas.List.Folds.{list_any_at}
use Rattle.pb_edit.specs.Edit.{CreatedItem}
use Rattle.pb_gate_log.specs.Payloads.{HasList, payloads_in}

-- a file has one list
pub one_list : (file : Option (List ℕ)) (list other : List (List ℕ)) → HasList list file → HasList other file → list ≡ other
one_list None list other has has_other = absurd has
one_list (Some bytes) list other has has_other = sym has ∙ has_other

pub list_in : (file : Option (List ℕ)) (list : List (List ℕ)) → HasList list file → payloads_in file ≡ list
list_in None list has = absurd has
list_in (Some bytes) list has = has

-- a fact of each number that stands among the items holds of each item's
pub all_numbered : (items : List CreatedItem) (Fact : ℕ → Type 0)
    → ((number : ℕ) → list_any (λ (item : CreatedItem). item.number == number) items ≡ true → Fact number)
    → All (λ (item : CreatedItem). Fact item.number) items
all_numbered items Fact each = λ k d within.
    let here = get_or items k d in
    each here.number
    (list_any_at (λ (item : CreatedItem). item.number == here.number) items k d within (eq-eqb here.number here.number refl))
