-- What a barrier and a power cut do to the contents of a disk in memory.
use Rattle.std.proofs.Common.{◌≡◌, ℕ, ◌⊎◌, inl, inr, Bool, true, false, List, [], ◌∷◌, Option, Some, None, IfSome, option_map, refl, sym, ap, subst, ◌∙◌, if◌then◌else◌}
use Rattle.std.specs.FinMap.{get}
use Rattle.pb_devices.specs.Contents.{IsTorn, IsSettled}
use Rattle.pb_devices.specs.DiskCalls.{AllSettled, IsCut}
use Rattle.pb_devices.proofs.Options.{some_of, of_some}
use Rattle.pb_mem.specs.Files.{FileView, durable_bytes, IsPending, synced, IsPicked}
use Rattle.pb_mem.specs.Slots.{SlotView, Slots, file_of, earlier_of, seen_of, durable_of, IsPendingOf, IsImageOf, IsImageOfAny, contents_in, happens, survivor, first_or, IsPickedOf, AreSettled, ArePicked}
use Rattle.pb_mem.proofs.FileLemmas.{picked-torn, durable-synced, synced-whole}

-- a slot whose file is durable as it is, with nothing before it
settled_file : (file : Option FileView) (after : Option FileView) → file ≡ option_map synced after → IfSome (seen_of file) (λ bytes. durable_of file ≡ bytes) × ((place : ℕ) → IsPendingOf file place → ⊥)
settled_file file None is = subst (λ (f : Option FileView). IfSome (seen_of f) (λ bytes. durable_of f ≡ bytes) × ((place : ℕ) → IsPendingOf f place → ⊥)) (sym is) (tt, λ place none. none)
settled_file file (Some after) is = subst (λ (f : Option FileView). IfSome (seen_of f) (λ bytes. durable_of f ≡ bytes) × ((place : ℕ) → IsPendingOf f place → ⊥)) (sym is) (durable-synced after, synced-whole after)

settled_at : (slots : Slots) (name : List ℕ) (after : Option FileView) → file_of (get slots name) ≡ option_map synced after → earlier_of (get slots name) ≡ [] → IsSettled (contents_in slots) name
settled_at slots name after file earlier =
    let settled = settled_file (file_of (get slots name)) after file in
    record {
      durable = settled.0;
      nothing_pending = settled.1;
      nothing_earlier = λ image is. subst (λ (files : List (Option FileView)). IsImageOfAny files image) earlier is;
    }

seen_synced : (file : Option FileView) → seen_of (option_map synced file) ≡ seen_of file
seen_synced None = refl
seen_synced (Some file) = refl

pub barred_slots : (old new : Slots) → AreSettled old new → AllSettled (contents_in old) (contents_in new)
barred_slots old new settled = record {
  seen = λ name. ap seen_of (settled.file name) ∙ seen_synced (file_of (get old name));
  settled = λ name. settled_at new name (file_of (get old name)) (settled.file name) (settled.earlier name);
}

picked_part : (pick : ℕ) (file new : Option FileView) → IsPickedOf pick file new → IsImageOf file (seen_of new)
picked_part pick None new picked = ap seen_of picked
picked_part pick (Some file) new picked =
    let found = some_of new (λ after. IsPicked pick file after.seen × (after ≡ synced after)) picked in
    of_some (seen_of new) (IsTorn (durable_bytes file) (IsPending file) file.seen) found.0.seen (ap seen_of found.1) (picked-torn pick file found.0.seen found.2.0)

picked_first : (other : Option FileView) (files : List (Option FileView)) (image : Option (List ℕ)) → IsImageOf (first_or other files) image → IsImageOfAny files image ⊎ IsImageOf other image
picked_first other [] image is = inr is
picked_first other (file ∷ files) image is = inl (inl is)

survivor_left : (b : Bool) (other : Option FileView) (files : List (Option FileView)) (image : Option (List ℕ)) → IsImageOf (if b then other else first_or other files) image → IsImageOfAny files image ⊎ IsImageOf other image
survivor_left true other files image is = inr is
survivor_left false other files image is = picked_first other files image is

slot_left : (pick : ℕ) (slot : Option SlotView) (image : Option (List ℕ)) → IsImageOf (survivor pick slot) image → IsImageOfAny (earlier_of slot) image ⊎ IsImageOf (file_of slot) image
slot_left pick None image is = inr is
slot_left pick (Some slot) image is = survivor_left (happens pick) slot.file slot.earlier image is

-- what a pick leaves is durable
picked_synced : (pick : ℕ) (file new : Option FileView) → IsPickedOf pick file new → new ≡ option_map synced new
picked_synced pick None new picked = picked ∙ ap (option_map synced) (sym picked)
picked_synced pick (Some file) new picked =
    let found = some_of new (λ after. IsPicked pick file after.seen × (after ≡ synced after)) picked in
    found.1 ∙ ap Some found.2.1 ∙ ap (option_map synced) (sym found.1)

pub cut_slots : (pick : ℕ) (old new : Slots) → ArePicked pick old new → IsCut (contents_in old) (contents_in new)
cut_slots pick old new picked = record {
  left = λ name. slot_left pick (get old name) (seen_of (file_of (get new name))) (picked_part pick (survivor pick (get old name)) (file_of (get new name)) (picked.file name));
  settled = λ name. settled_at new name (file_of (get new name)) (picked_synced pick (survivor pick (get old name)) (file_of (get new name)) (picked.file name)) (picked.earlier name);
}
