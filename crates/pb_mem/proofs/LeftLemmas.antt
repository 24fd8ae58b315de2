-- What a call that fails leaves of the folder in memory.
use Rattle.std.proofs.Common.{◌≡◌, ℕ, Bool, true, false, List, length, Option, Some, None, is_some, option_map, refl, sym, ap, subst, ◌∙◌, if◌then◌else◌, ◌==◌}
use Rattle.std.specs.Ordering.{nat_cmp, eq_by_cmp}
use Rattle.std.specs.Cmp.Lexicographic.{slice_cmp}
use Rattle.std.specs.FinMap.{get}
use Rattle.pb_devices.specs.DiskCalls.{over}
use Rattle.pb_mem.specs.Files.{FileView, touched, written, scribbled, scribble, pattern}
use Rattle.pb_mem.specs.Slots.{SlotView, Slots, file_of, seen_of, contents_in, happens, removed, after_removal, with_file, ChangesAt}
use Rattle.pb_mem.proofs.NamedLemmas.{same_by_name}
use Rattle.pb_mem.proofs.SlotLemmas.{tied_same, file_changed}

-- the slot that a name has, put there again, is what each name has
same_slot : (slots : Slots) (name other : List ℕ) → (if eq_by_cmp (slice_cmp nat_cmp) other name then get slots name else get slots other) ≡ get slots other
same_slot slots name other =
    elim (eq_by_cmp (slice_cmp nat_cmp) other name) as (λ (b : Bool). eq_by_cmp (slice_cmp nat_cmp) other name ≡ b → (if b then get slots name else get slots other) ≡ get slots other) [
      | true ↦ λ is. ap (get slots) (sym (tied_same other name is))
      | false ↦ λ _. refl
    ] refl

-- where a name's slot is as it was and no other has changed, the folder is as it was
pub same_slots : (old new : Slots) (name : List ℕ) → ChangesAt old new name (get old name) → new ≡ old
same_slots old new name changes = same_by_name new old (λ q. changes q ∙ same_slot old name q)

pub changes_none : (slots : Slots) (name : List ℕ) → ChangesAt slots slots name (get slots name)
changes_none slots name = λ other. sym (same_slot slots name other)

-- the pick doesn't let the call happen, and it hasn't
pub has_not_happened : (pick : ℕ) (slots : Slots) (name : List ℕ) (after : Option SlotView) → happens pick ≡ false
    → ChangesAt slots slots name (if happens pick then after else get slots name)
has_not_happened pick slots name after bars = subst (λ (b : Bool). ChangesAt slots slots name (if b then after else get slots name)) (sym bars) (changes_none slots name)

removal_of_none : (slot : Option SlotView) → is_some (file_of slot) ≡ false → after_removal slot ≡ slot
removal_of_none slot none = ap (λ (b : Bool). if b then Some (removed slot) else slot) none

-- the removal of a file that isn't there changes nothing
pub none_removed : (slots : Slots) (name : List ℕ) → is_some (file_of (get slots name)) ≡ false → ChangesAt slots slots name (after_removal (get slots name))
none_removed slots name none = subst (ChangesAt slots slots name) (sym (removal_of_none (get slots name) none)) (changes_none slots name)

either_same : (b : Bool) (slots : Slots) (name : List ℕ) (after : Option SlotView) → ChangesAt slots slots name after → ChangesAt slots slots name (if b then after else get slots name)
either_same true slots name after changes = changes
either_same false slots name after changes = changes_none slots name

-- whatever the pick
pub none_happened : (pick : ℕ) (slots : Slots) (name : List ℕ) → is_some (file_of (get slots name)) ≡ false
    → ChangesAt slots slots name (if happens pick then after_removal (get slots name) else get slots name)
none_happened pick slots name none = either_same (happens pick) slots name (after_removal (get slots name)) (none_removed slots name none)

scribble_cases : (b c : Bool) (pick at : ℕ) (bytes : List ℕ) (file : FileView)
    → (if b then touched file at (length bytes) else if c then written file at bytes else written file at (pattern pick at (length bytes))).seen
    ≡ (if b then file.seen else if c then over file.seen at bytes else over file.seen at (pattern pick at (length bytes)))
scribble_cases true c pick at bytes file = refl
scribble_cases false true pick at bytes file = refl
scribble_cases false false pick at bytes file = refl

seen_scribble : (pick : ℕ) (file : Option FileView) (at : ℕ) (bytes before : List ℕ) → seen_of file ≡ Some before
    → seen_of (option_map (λ f. scribbled pick f at bytes) file) ≡ Some (scribble pick before at bytes)
seen_scribble pick None at bytes before is = cc
seen_scribble pick (Some file) at bytes before is =
    let same : file.seen ≡ before = cc in
    ap Some (scribble_cases (pick == 0) (pick == 1) pick at bytes file ∙ ap (λ (b : List ℕ). scribble pick b at bytes) same)

-- reads give what the pick leaves of a write that failed
pub reads_scribbled : (pick : ℕ) (old new : Slots) (name : List ℕ) (at : ℕ) (bytes : List ℕ)
    → ChangesAt old new name (with_file (λ f. scribbled pick f at bytes) (get old name))
    → (before : List ℕ) → (contents_in old).seen name ≡ Some before → (contents_in new).seen name ≡ Some (scribble pick before at bytes)
reads_scribbled pick old new name at bytes changes = λ before is.
    ap seen_of (file_changed (λ f. scribbled pick f at bytes) old new name changes) ∙ seen_scribble pick (file_of (get old name)) at bytes before is
