-- What the calls of a disk in memory do to its contents, name by name.
use Rattle.std.proofs.Common.{◌≡◌, ℕ, ◌+◌, ◌<◌, ◌≤◌, ◌⊎◌, inl, inr, Bool, true, false, List, [], ◌∷◌, ◌++◌, length, Option, Some, None, IsSome, IsSomeAnd, option_map, refl, sym, ap, subst, ◌∙◌, arith, if◌then◌else◌, ◌==◌}
use Rattle.std.specs.Ordering.{nat_cmp, eq_by_cmp, is_eq}
use Rattle.std.specs.Cmp.{tied_itself}
use Rattle.std.specs.declared.cmp.Ordering.{Ordering}
use Rattle.std.specs.declared.cmp.Ordering.TheVariants.{Less, Equal, Greater}
use Rattle.std.specs.Cmp.Lexicographic.{slice_cmp, nat_list_cmp_total}
use Rattle.std.specs.FinMap.{get, nat_cmp-IsAntisymmetric, slice_cmp-IsAntisymmetric}
use Rattle.pb_devices.specs.DiskCalls.{StaysAt, Stays, OthersStay, IsCreated, IsWritten, IsOver, IsScribble, IsScribbled, IsSynced, IsRemoved, over}
use Rattle.pb_devices.specs.Reads.{IsWithin}
use Rattle.pb_devices.proofs.Over.{length-over}
use Rattle.pb_mem.specs.Files.{FileView, IsPending, synced, empty_file, touched, written, scribbled, pattern}
use Rattle.pb_mem.specs.Slots.{SlotView, Slots, file_of, earlier_of, seen_of, durable_of, IsPendingOf, IsImageOf, IsImageOfAny, contents_in, ChangesAt, with_file, created, removed}
use Rattle.pb_mem.proofs.FileLemmas.{over-outside, durable-synced, synced-whole, pending-touched, pending-written, length-pattern}

-- what is held of a name depends on its slot alone
pub stays_at : (old new : Slots) (name : List ℕ) → get new name ≡ get old name → StaysAt (contents_in old) (contents_in new) name
stays_at old new name same = record {
  seen = ap (λ (s : Option SlotView). seen_of (file_of s)) same;
  durable = ap (λ (s : Option SlotView). durable_of (file_of s)) same;
  pending = λ at is. subst (λ (s : Option SlotView). IsPendingOf (file_of s) at) same is;
  earlier = λ image is. subst (λ (s : Option SlotView). IsImageOfAny (earlier_of s) image) same is;
}

tied_name : (name : List ℕ) → eq_by_cmp (slice_cmp nat_cmp) name name ≡ true
tied_name name = ap is_eq (tied_itself nat_list_cmp_total name)

pub tied_same : (other name : List ℕ) → eq_by_cmp (slice_cmp nat_cmp) other name ≡ true → other ≡ name
tied_same other name is =
    elim (slice_cmp nat_cmp other name) as (λ (o : Ordering). slice_cmp nat_cmp other name ≡ o → is_eq o ≡ true → other ≡ name) [
      | Less ↦ λ _ e. cc
      | Equal ↦ λ o _. slice_cmp-IsAntisymmetric nat_cmp-IsAntisymmetric other name o
      | Greater ↦ λ _ e. cc
    ] refl is

pub at_name : (old new : Slots) (name : List ℕ) (after : Option SlotView) → ChangesAt old new name after → get new name ≡ after
at_name old new name after changes = changes name ∙ ap (λ (b : Bool). if b then after else get old name) (tied_name name)

pub at_other : (old new : Slots) (name : List ℕ) (after : Option SlotView) → ChangesAt old new name after → (other : List ℕ) → (other ≡ name → ⊥) → get new other ≡ get old other
at_other old new name after changes other apart =
    elim (eq_by_cmp (slice_cmp nat_cmp) other name) as (λ (b : Bool). eq_by_cmp (slice_cmp nat_cmp) other name ≡ b → get new other ≡ get old other) [
      | true ↦ λ is. absurd (apart (tied_same other name is))
      | false ↦ λ is. changes other ∙ ap (λ (b : Bool). if b then after else get old other) is
    ] refl

pub others_stay : (old new : Slots) (name : List ℕ) (after : Option SlotView) → ChangesAt old new name after → OthersStay (contents_in old) (contents_in new) name
others_stay old new name after changes = λ other apart. stays_at old new other (at_other old new name after changes other apart)

pub all_stay : (old new : Slots) (name : List ℕ) → ChangesAt old new name (get old name) → Stays (contents_in old) (contents_in new)
all_stay old new name changes = λ other. stays_at old new other (changes other ∙
    elim (eq_by_cmp (slice_cmp nat_cmp) other name) as (λ (b : Bool). eq_by_cmp (slice_cmp nat_cmp) other name ≡ b → (if b then get old name else get old other) ≡ get old other) [
      | true ↦ λ is. ap (get old) (sym (tied_same other name is))
      | false ↦ λ _. refl
    ] refl)

any_push : (files : List (Option FileView)) (last : Option FileView) (image : Option (List ℕ)) → IsImageOfAny (files ++ last ∷ []) image → IsImageOfAny files image ⊎ IsImageOf last image
any_push [] last image (inl here) = inr here
any_push [] last image (inr none) = absurd none
any_push (file ∷ files) last image (inl here) = inl (inl here)
any_push (file ∷ files) last image (inr later) = elim (any_push files last image later) [ inl before ↦ inl (inr before) | inr here ↦ inr here ]

empty_whole : (place : ℕ) → IsPending empty_file place → ⊥
empty_whole place (inl tail) = omega arith
empty_whole place (inr none) = none

pub created_slot : (old new : Slots) (name : List ℕ) → ChangesAt old new name (Some (created (get old name))) → IsCreated (contents_in old) (contents_in new) name
created_slot old new name changes =
    let at = at_name old new name (Some (created (get old name))) changes in
    record {
      seen = ap (λ (s : Option SlotView). seen_of (file_of s)) at;
      durable = ap (λ (s : Option SlotView). durable_of (file_of s)) at;
      pending = λ place is. empty_whole place (subst (λ (s : Option SlotView). IsPendingOf (file_of s) place) at is);
      earlier = λ image is. any_push (earlier_of (get old name)) (file_of (get old name)) image (subst (λ (s : Option SlotView). IsImageOfAny (earlier_of s) image) at is);
      others = others_stay old new name (Some (created (get old name))) changes;
    }

some_seen : (file : Option FileView) → IsSome file → seen_of file ≡ None → ⊥
some_seen None there none = cc
some_seen (Some file) there none = cc

pub removed_slot : (old new : Slots) (name : List ℕ) → IsSome (file_of (get old name)) → ChangesAt old new name (Some (removed (get old name))) → IsRemoved (contents_in old) (contents_in new) name
removed_slot old new name there changes =
    let at = at_name old new name (Some (removed (get old name))) changes in
    record {
      seen = ap (λ (s : Option SlotView). seen_of (file_of s)) at;
      earlier = λ image is. any_push (earlier_of (get old name)) (file_of (get old name)) image (subst (λ (s : Option SlotView). IsImageOfAny (earlier_of s) image) at is);
      absent = λ none. absurd (some_seen (file_of (get old name)) there none);
      others = others_stay old new name (Some (removed (get old name))) changes;
    }

file_of-with_file : (change : FileView → FileView) (slot : Option SlotView) → file_of (with_file change slot) ≡ option_map change (file_of slot)
file_of-with_file change None = refl
file_of-with_file change (Some slot) = refl

earlier_of-with_file : (change : FileView → FileView) (slot : Option SlotView) → earlier_of (with_file change slot) ≡ earlier_of slot
earlier_of-with_file change None = refl
earlier_of-with_file change (Some slot) = refl

pub file_changed : (change : FileView → FileView) (old new : Slots) (name : List ℕ) → ChangesAt old new name (with_file change (get old name)) → file_of (get new name) ≡ option_map change (file_of (get old name))
file_changed change old new name changes = ap file_of (at_name old new name (with_file change (get old name)) changes) ∙ file_of-with_file change (get old name)

pub earlier_kept : (change : FileView → FileView) (old new : Slots) (name : List ℕ) → ChangesAt old new name (with_file change (get old name)) → earlier_of (get new name) ≡ earlier_of (get old name)
earlier_kept change old new name changes = ap earlier_of (at_name old new name (with_file change (get old name)) changes) ∙ earlier_of-with_file change (get old name)

-- a change of a file that leaves only a range pending
WritesWithin : (FileView → FileView) → ℕ → ℕ → Type 0
WritesWithin change at n = (file : FileView) (place : ℕ) → at ≤ length file.seen → IsPending (change file) place → IsPending file place ⊎ ((at ≤ place) × (place < at + n))

pending_within : (change : FileView → FileView) (at n : ℕ) (file : Option FileView) (place : ℕ)
    → ((f : FileView) (p : ℕ) → at ≤ length f.seen → IsPending (change f) p → IsPending f p ⊎ ((at ≤ p) × (p < at + n)))
    → IsWithin at (seen_of file) → IsPendingOf (option_map change file) place → IsPendingOf file place ⊎ ((at ≤ place) × (place < at + n))
pending_within change at n None place writes within is = absurd is
pending_within change at n (Some file) place writes within is = writes file place within is

changed_file : (change : FileView → FileView) (at n : ℕ) (old new : Slots) (name : List ℕ)
    → ((f : FileView) (p : ℕ) → at ≤ length f.seen → IsPending (change f) p → IsPending f p ⊎ ((at ≤ p) × (p < at + n)))
    → IsWithin at (seen_of (file_of (get old name))) → ChangesAt old new name (with_file change (get old name))
    → durable_of (file_of (get new name)) ≡ durable_of (file_of (get old name))
    → IsWritten (contents_in old) (contents_in new) name at n
changed_file change at n old new name writes within changes durable = record {
  durable = durable;
  pending = λ place is. pending_within change at n (file_of (get old name)) place writes within
      (subst (λ (f : Option FileView). IsPendingOf f place) (file_changed change old new name changes) is);
  earlier = λ image is. subst (λ (files : List (Option FileView)). IsImageOfAny files image) (earlier_kept change old new name changes) is;
  others = others_stay old new name (with_file change (get old name)) changes;
}

pub written_slot : (old new : Slots) (name : List ℕ) (at : ℕ) (bytes : List ℕ)
    → IsWithin at (seen_of (file_of (get old name))) → ChangesAt old new name (with_file (λ f. written f at bytes) (get old name))
    → durable_of (file_of (get new name)) ≡ durable_of (file_of (get old name))
    → IsWritten (contents_in old) (contents_in new) name at (length bytes)
written_slot old new name at bytes within changes durable =
    changed_file (λ f. written f at bytes) at (length bytes) old new name (λ f p w is. pending-written f at bytes p w is) within changes durable

seen_over : (file : Option FileView) (at : ℕ) (bytes before : List ℕ) → seen_of file ≡ Some before → seen_of (option_map (λ f. written f at bytes) file) ≡ Some (over before at bytes)
seen_over None at bytes before is = cc
seen_over (Some file) at bytes before is = let same : file.seen ≡ before = cc in ap (λ (b : List ℕ). Some (over b at bytes)) same

pub over_slot : (old new : Slots) (name : List ℕ) (at : ℕ) (bytes : List ℕ) → ChangesAt old new name (with_file (λ f. written f at bytes) (get old name)) → IsOver (contents_in old) (contents_in new) name at bytes
over_slot old new name at bytes changes = λ before is. ap seen_of (file_changed (λ f. written f at bytes) old new name changes) ∙ seen_over (file_of (get old name)) at bytes before is

pending-scribbled : (b c : Bool) (pick at : ℕ) (bytes : List ℕ) (file : FileView) (place : ℕ) → at ≤ length file.seen
    → IsPending (if b then touched file at (length bytes) else if c then written file at bytes else written file at (pattern pick at (length bytes))) place
    → IsPending file place ⊎ ((at ≤ place) × (place < at + length bytes))
pending-scribbled true c pick at bytes file place within is = pending-touched file at (length bytes) place is
pending-scribbled false true pick at bytes file place within is = pending-written file at bytes place within is
pending-scribbled false false pick at bytes file place within is =
    subst (λ (n : ℕ). IsPending file place ⊎ ((at ≤ place) × (place < at + n))) (length-pattern pick at (length bytes))
    (pending-written file at (pattern pick at (length bytes)) place within is)

pub scribbled_slot : (pick : ℕ) (old new : Slots) (name : List ℕ) (at : ℕ) (bytes : List ℕ)
    → IsWithin at (seen_of (file_of (get old name))) → ChangesAt old new name (with_file (λ f. scribbled pick f at bytes) (get old name))
    → durable_of (file_of (get new name)) ≡ durable_of (file_of (get old name))
    → IsWritten (contents_in old) (contents_in new) name at (length bytes)
scribbled_slot pick old new name at bytes within changes durable =
    changed_file (λ f. scribbled pick f at bytes) at (length bytes) old new name (λ f p w is. pending-scribbled (pick == 0) (pick == 1) pick at bytes f p w is) within changes durable

scribble_over : (before : List ℕ) (at : ℕ) (bytes : List ℕ) (n : ℕ) → at ≤ length before → length bytes ≡ n → IsScribble before at n (over before at bytes)
scribble_over before at bytes n within size = record {
  outside = λ place below apart. over-outside before at bytes place within below (subst (λ (m : ℕ). (place < at) ⊎ (at + m ≤ place)) (sym size) apart);
  no_shorter = omega (arith, length-over before at bytes within);
  no_longer = omega (arith, length-over before at bytes within, size);
}

scribble_none : (before : List ℕ) (at n : ℕ) → IsScribble before at n before
scribble_none before at n = record {
  outside = λ place below apart. refl;
  no_shorter = omega arith;
  no_longer = omega arith;
}

scribble_seen : (b c : Bool) (pick at : ℕ) (bytes : List ℕ) (file : FileView) → at ≤ length file.seen
    → IsScribble file.seen at (length bytes) (if b then touched file at (length bytes) else if c then written file at bytes else written file at (pattern pick at (length bytes))).seen
scribble_seen true c pick at bytes file within = scribble_none file.seen at (length bytes)
scribble_seen false true pick at bytes file within = scribble_over file.seen at bytes (length bytes) within refl
scribble_seen false false pick at bytes file within = scribble_over file.seen at (pattern pick at (length bytes)) (length bytes) within (length-pattern pick at (length bytes))

seen_scribbled : (pick : ℕ) (file : Option FileView) (at : ℕ) (bytes before : List ℕ) → IsWithin at (seen_of file) → seen_of file ≡ Some before → IsSomeAnd (seen_of (option_map (λ f. scribbled pick f at bytes) file)) (IsScribble before at (length bytes))
seen_scribbled pick None at bytes before within is = cc
seen_scribbled pick (Some file) at bytes before within is =
    let same : file.seen ≡ before = cc in
    subst (λ (b : List ℕ). IsScribble b at (length bytes) (scribbled pick file at bytes).seen) same (scribble_seen (pick == 0) (pick == 1) pick at bytes file within)

pub scribble_slot : (pick : ℕ) (old new : Slots) (name : List ℕ) (at : ℕ) (bytes : List ℕ) → IsWithin at (seen_of (file_of (get old name))) → ChangesAt old new name (with_file (λ f. scribbled pick f at bytes) (get old name))
    → IsScribbled (contents_in old) (contents_in new) name at (length bytes)
scribble_slot pick old new name at bytes within changes = λ before is.
    subst (λ (f : Option FileView). IsSomeAnd (seen_of f) (IsScribble before at (length bytes))) (sym (file_changed (λ f. scribbled pick f at bytes) old new name changes))
    (seen_scribbled pick (file_of (get old name)) at bytes before within is)

seen_synced : (file : Option FileView) → seen_of (option_map synced file) ≡ seen_of file
seen_synced None = refl
seen_synced (Some file) = refl

durable_synced : (file : Option FileView) (bytes : List ℕ) → seen_of file ≡ Some bytes → durable_of (option_map synced file) ≡ bytes
durable_synced None bytes is = cc
durable_synced (Some file) bytes is = let same : file.seen ≡ bytes = cc in durable-synced file ∙ same

whole_synced : (file : Option FileView) (place : ℕ) → IsPendingOf (option_map synced file) place → ⊥
whole_synced None place is = is
whole_synced (Some file) place is = synced-whole file place is

pub synced_slot : (old new : Slots) (name : List ℕ) → ChangesAt old new name (with_file synced (get old name)) → IsSynced (contents_in old) (contents_in new) name
synced_slot old new name changes =
    let file = file_changed synced old new name changes in
    record {
      seen = ap seen_of file ∙ seen_synced (file_of (get old name));
      durable = λ bytes is. ap durable_of file ∙ durable_synced (file_of (get old name)) bytes is;
      pending = λ place is. whole_synced (file_of (get old name)) place (subst (λ (f : Option FileView). IsPendingOf f place) file is);
      earlier = λ image is. subst (λ (files : List (Option FileView)). IsImageOfAny files image) (earlier_kept synced old new name changes) is;
      others = others_stay old new name (with_file synced (get old name)) changes;
    }

-- a write for which there was no memory
pub unwritten : (old new : Slots) (name : List ℕ) (at n : ℕ) → ChangesAt old new name (get old name) → IsWritten (contents_in old) (contents_in new) name at n
unwritten old new name at n changes =
    let stay = all_stay old new name changes in
    record {
      durable = (stay name).durable;
      pending = λ place is. inl ((stay name).pending place is);
      earlier = (stay name).earlier;
      others = λ other _. stay other;
    }
