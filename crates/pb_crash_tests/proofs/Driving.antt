-- A log of which the first payloads stand, and one more after the next append.
use Rattle.std.proofs.Common.{◌≡◌, ℕ, ◌<◌, ◌≤◌, Bool, true, List, [], ◌∷◌, ◌++◌, length, take, get_or, refl, sym, ap, ◌∙◌, arith, inl, inr}
use Rattle.std.specs.Prelude.{Option, Some, None}
use Rattle.std.proofs.lemmas.List.{take_more}
use Rattle.pb_devices.specs.BeforeOrAfter.{IsBeforeOrAfter}
use Rattle.pb_devices.specs.Contents.{Contents, MayLeave}
use Rattle.pb_gate_log.specs.Calls.{Makes}
use Rattle.pb_gate_log.specs.EachLog.{LogPlace, EachLog}
use Rattle.pb_gate_log.specs.Payloads.{HasList, payloads_in}
use Rattle.pb_gate_log.proofs.FilePayloads.{has_payloads}
use Rattle.pb_gate_log.proofs.LogStates.{each_has}
use Rattle.std.specs.FinMap.{get}
use Rattle.std.specs.Prelude.{◌⊎◌}
use Rattle.pb_mem.specs.Slots.{Slots, SlotView, IsImageOf, IsImageOfAny, contents_in, earlier_of, file_of}
use Rattle.pb_devices.specs.Contents.{KeepsOthers}
use Rattle.pb_manifest.proofs.Folders.{apart_catalogue}
use Rattle.pb_manifest.specs.Manifest.{manifest_name, catalogue_name}
use Rattle.pb_names.proofs.Makers.{file_name-other_kind}
use Rattle.pb_names.specs.Spelling.{current_name}
use Rattle.pb_names.specs.declared.file_kind.FileKind.TheVariants.{Manifest, Catalogue}
use Rattle.pb_crash_tests.specs.Driven.{NeverStood, HasFirst, IsUnmade}

-- the first so many payloads were appended
pub record IsAppending (told : Bool) (payloads : List (List ℕ)) (done : ℕ) (name : List ℕ) (log : LogPlace) (disk : Contents) : Type 0 where
  pub file : log.file ≡ name
  pub within : done ≤ length payloads
  pub each : told ≡ true → EachLog log (take done payloads) disk

-- where the creation fails
pub none_made : (payloads : List (List ℕ)) (name : List ℕ) (old new : Contents) → NeverStood old name → Makes name old new
    → (image : Option (List ℕ)) → MayLeave new name image → HasFirst payloads 0 image
none_made payloads name old new never makes image left =
    elim (makes.crash image left) [
      | inl before ↦ inl (ap payloads_in (never image before))
      | inr made ↦ inl (has_payloads [] image made)
    ]

-- where an append fails
pub one_failed : (payloads : List (List ℕ)) (done : ℕ) (payload item : List ℕ) (image : Option (List ℕ))
    → done < length payloads → payload ≡ item → item ≡ get_or payloads done item
    → IsBeforeOrAfter (λ list. HasList list image) (take done payloads) (take done payloads ++ payload ∷ []) → HasFirst payloads done image
one_failed payloads done payload item image within same is (inl has) = inl (has_payloads (take done payloads) image has)
one_failed payloads done payload item image within same is (inr has) =
    inr
    (has_payloads (take done payloads ++ payload ∷ []) image has
    ∙ ap (λ (p : List ℕ). take done payloads ++ p ∷ []) (same ∙ is)
    ∙ sym (take_more payloads done item within))

-- where all were appended
pub all_done : (payloads : List (List ℕ)) (done : ℕ) (log : LogPlace) (disk : Contents) → EachLog log (take done payloads) disk
    → (image : Option (List ℕ)) → MayLeave disk log.file image → HasFirst payloads done image
all_done payloads done log disk each image left = inl (has_payloads (take done payloads) image (each_has log (take done payloads) disk each image left))

-- ---- a new disk

where_none : (slot : Option SlotView) (image : Option (List ℕ)) → slot ≡ None → IsImageOfAny (earlier_of slot) image ⊎ IsImageOf (file_of slot) image
    → image ≡ None
where_none None image none (inl before) = absurd before
where_none None image none (inr is) = is
where_none (Some slot) image none left = cc

pub never_stood : (slots : Slots) (name : List ℕ) → get slots name ≡ None → NeverStood (contents_in slots) name
never_stood slots name none image left = where_none (get slots name) image none left

-- ---- a new folder with a file of the catalogue

no_payloads : (file : Option (List ℕ)) → file ≡ None → payloads_in file ≡ []
no_payloads None none = refl
no_payloads (Some bytes) none = cc

pub catalogue_alone : (old new : Contents) → ((name : List ℕ) → MayLeave old name (old.seen name)) → ((name : List ℕ) → NeverStood old name)
    → KeepsOthers old new (catalogue_name 2) → IsUnmade new
catalogue_alone old new seen never kept =
    let current = kept current_name (apart_catalogue 2 (omega arith)) in
    let manifest = kept (manifest_name 1) (file_name-other_kind Manifest Catalogue 1 2 (omega arith) (omega arith) (λ same. cc)) in
    record {
      absent = manifest.reads ∙ never (manifest_name 1) (old.seen (manifest_name 1)) (seen (manifest_name 1));
      new = λ folder image. no_payloads (folder current_name) (never current_name (folder current_name) (current.images (folder current_name) (image current_name)));
      pointless = no_payloads (new.seen current_name) (current.reads ∙ never current_name (old.seen current_name) (seen current_name));
    }
