-- Each state of a name in between is one of its images.
use Rattle.std.proofs.Common.{◌≡◌, ℕ, ◌⊎◌, inl, inr, Bool, true, false, List, [], ◌∷◌, ◌++◌, Option, Some, None, is_some, refl, sym, ap, subst, ◌∙◌, if◌then◌else◌}
use Rattle.std.specs.FinMap.{get}
use Rattle.pb_devices.specs.Contents.{IsTorn, IsPart, MayLeave}
use Rattle.pb_devices.specs.DiskCalls.{over}
use Rattle.pb_mem.specs.Files.{FileView, written, synced}
use Rattle.pb_mem.specs.Images.{MayLeaveOf}
use Rattle.pb_mem.specs.Seen.{seen_left}
use Rattle.pb_mem.specs.Slots.{SlotView, Slots, file_of, earlier_of, seen_of, IsImageOf, IsImageOfAny, contents_in, ChangesAt, with_file, created, removed, after_removal}
use Rattle.pb_mem.proofs.SlotLemmas.{at_name, created_slot, over_slot, earlier_kept}

push_any : (files : List (Option FileView)) (last : Option FileView) (image : Option (List ℕ)) → IsImageOfAny files image ⊎ IsImageOf last image → IsImageOfAny (files ++ last ∷ []) image
push_any [] last image (inl none) = absurd none
push_any [] last image (inr here) = inl here
push_any (file ∷ files) last image (inl (inl here)) = inl here
push_any (file ∷ files) last image (inl (inr later)) = inr (push_any files last image (inl later))
push_any (file ∷ files) last image (inr here) = inr (push_any files last image (inr here))

pub created_keeps : (old new : Slots) (name : List ℕ) → ChangesAt old new name (Some (created (get old name)))
    → (image : Option (List ℕ)) → MayLeave (contents_in old) name image → MayLeave (contents_in new) name image
created_keeps old new name changes image left =
    subst (λ (s : Option SlotView). MayLeaveOf s image) (sym (at_name old new name (Some (created (get old name))) changes))
    (inl (push_any (earlier_of (get old name)) (file_of (get old name)) image left))

pub created_new : (old new : Slots) (name : List ℕ) → ChangesAt old new name (Some (created (get old name))) → MayLeave (contents_in new) name (Some [])
created_new old new name changes =
    subst (λ (image : Option (List ℕ)). MayLeave (contents_in new) name image) (created_slot old new name changes).seen (seen_left new name)

removed_keeps_if : (b : Bool) (slot : Option SlotView) (image : Option (List ℕ)) → MayLeaveOf slot image → MayLeaveOf (if b then Some (removed slot) else slot) image
removed_keeps_if true slot image left = inl (push_any (earlier_of slot) (file_of slot) image left)
removed_keeps_if false slot image left = left

pub removed_keeps : (old new : Slots) (name : List ℕ) → ChangesAt old new name (after_removal (get old name))
    → (image : Option (List ℕ)) → MayLeave (contents_in old) name image → MayLeave (contents_in new) name image
removed_keeps old new name changes image left =
    subst (λ (s : Option SlotView). MayLeaveOf s image) (sym (at_name old new name (after_removal (get old name)) changes))
    (removed_keeps_if (is_some (file_of (get old name))) (get old name) image left)

none_seen : (file : Option FileView) → is_some file ≡ false → seen_of file ≡ None
none_seen None is = refl
none_seen (Some file) is = cc

gone_if : (b : Bool) (slot : Option SlotView) → is_some (file_of slot) ≡ b → seen_of (file_of (if b then Some (removed slot) else slot)) ≡ None
gone_if true slot is = refl
gone_if false slot is = none_seen (file_of slot) is

pub removed_new : (old new : Slots) (name : List ℕ) → ChangesAt old new name (after_removal (get old name)) → MayLeave (contents_in new) name None
removed_new old new name changes =
    subst (λ (image : Option (List ℕ)). MayLeave (contents_in new) name image)
    (ap (λ (s : Option SlotView). seen_of (file_of s)) (at_name old new name (after_removal (get old name)) changes) ∙ gone_if (is_some (file_of (get old name))) (get old name) refl)
    (seen_left new name)

pub torn_left : (old new : Slots) (name : List ℕ) (at : ℕ) (bytes before image : List ℕ) → (contents_in old).seen name ≡ Some before
    → ChangesAt old new name (with_file (λ file. written file at bytes) (get old name))
    → IsTorn ((contents_in new).durable name) ((contents_in new).pending name) (over before at bytes) image
    → MayLeave (contents_in new) name (Some image)
torn_left old new name at bytes before image is changes torn =
    inr (subst (λ (seen : Option (List ℕ)). IsPart ((contents_in new).durable name) ((contents_in new).pending name) seen (Some image)) (sym (over_slot old new name at bytes changes before is)) torn)

pub synced_earlier : (old new : Slots) (name : List ℕ) (image : Option (List ℕ)) → ChangesAt old new name (with_file synced (get old name))
    → (contents_in old).earlier name image → (contents_in new).earlier name image
synced_earlier old new name image changes left =
    subst (λ (files : List (Option FileView)). IsImageOfAny files image) (sym (earlier_kept synced old new name changes)) left
