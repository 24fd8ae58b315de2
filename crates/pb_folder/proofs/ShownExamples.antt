-- What words show, computed; and buckets with which no program may begin.
use Rattle.std.proofs.Common.{◌≡◌, ℕ, true, false, inl, inr, Some, None, [], ◌∷◌, refl, sym, ap, ◌∙◌, subst}
use Rattle.std.specs.Prelude.{◌&&◌, is_some, codes}
use Rattle.std.specs.Fmt.{digits}
use Rattle.std.specs.FinMap.{contains_key, empty, get-empty}
use Rattle.std.proofs.lemmas.Bool.{both_ways, cases_Bool, cond-true, cond-false}
use Rattle.pb_devices.specs.Contents.{Folder}
use Rattle.pb_names.specs.Identity.{Identity}
use Rattle.pb_names.specs.Ranges.{is_object, is_store}
use Rattle.pb_names.specs.Spelling.{current_name, object_name, marker_name, marker_prefix}
use Rattle.pb_payloads.specs.Catalogued.Standing.{Shared, External}
use Rattle.pb_gate_log.specs.Payloads.{payloads_in}
use Rattle.pb_version.specs.Examples.{flushed_store}
use Rattle.pb_marker_world.specs.declared.stages.Stage.TheVariants.{Held, Loose}
use Rattle.pb_marker_world.specs.Machine.{Entry, own_marker}
use Rattle.pb_marker_world.specs.Bucket.{is_marker, name_of}
use Rattle.pb_marker_world.specs.Sound.{IsSound}
use Rattle.pb_marker_world.proofs.ShownExamples.{bucket, is_in, in_bucket, a_leading_zero_is_off_form}
use Rattle.pb_folder.specs.Listed.{folder_of}
use Rattle.pb_folder.specs.Said.{Said}
use Rattle.pb_folder.specs.Shown.{Words, closed_part, words_of, closed_world, IsGood}
use Rattle.pb_folder.proofs.ShownLaws.{new_good}

abbrev pub o : Identity
o = record { creator = 1; number = 4 }

-- the number 4 is named and of an object of its own, 5 isn't named and is of another's, 6 is of an external object
abbrev pub said : Said
said =
    record {
      pointer = record { manifest = 1; catalogue = 2 };
      version = flushed_store;
      entries = (4, Shared o) ∷ (5, Shared (record { creator = 2; number = 7 })) ∷ (6, External (codes "e")) ∷ [];
      log = [];
    }

pub named_is_held : (closed_part 1 (Some said)).entries 4 ≡ Some (record { object = o; lender = None; stage = Held })
named_is_held = refl

pub unnamed_is_loose : (closed_part 1 (Some said)).entries 5
    ≡ Some (record { object = record { creator = 2; number = 7 }; lender = None; stage = Loose })
unnamed_is_loose = refl

pub external_has_no_entry : (closed_part 1 (Some said)).entries 6 ≡ None
external_has_no_entry = refl

pub without_entry_is_none : (closed_part 1 (Some said)).entries 7 ≡ None
without_entry_is_none = refl

-- the next number isn't used, and the one before it is
pub next_is_unused : (closed_part 1 (Some said)).used 64 ≡ false
next_is_unused = refl

pub last_is_used : (closed_part 1 (Some said)).used 63 ≡ true
last_is_used = refl

pub new_uses_nothing : (closed_part 1 None).used 0 ≡ false
new_uses_nothing = refl

-- ---- what is good, and what isn't

abbrev new_images : ℕ → Folder → Type 0
new_images store folder = folder ≡ folder_of []

pub eight_new_folders_are_good : IsGood new_images empty
eight_new_folders_are_good =
    new_good new_images empty
    (λ name there. absurd (both_ways (contains_key empty name) (ap is_some (get-empty _ name)) there))
    (λ store is folder image. subst (λ (x : Folder). payloads_in (x current_name) ≡ []) (sym image) refl)

no_words : (store : ℕ) → words_of (λ _. None) store ≡ None
no_words store =
    elim (cases_Bool (is_store store)) [
      | inl y ↦ cond-true (is_store store) None None y
      | inr y ↦ cond-false (is_store store) None None y
    ]

-- an object that no entry answers for
abbrev stray : Identity
stray = record { creator = 7; number = 9 }

stray_written : (is_object stray && is_in (codes "obj/7/9" ∷ []) (object_name stray)) ≡ true
unfolding object_name digits
stray_written = refl

pub a_stray_object_is_not_sound : IsSound (closed_world (λ _. None) (bucket (codes "obj/7/9" ∷ []))) → ⊥
a_stray_object_is_not_sound sound =
    let u = sound.S6 stray (ap (λ x. is_object stray && x) (in_bucket (codes "obj/7/9" ∷ []) (object_name stray)) ∙ stray_written) in
    let clash : None ≡ Some u.entry = sym (ap (λ (x : Words). (closed_part 1 x).entries u.number) (no_words u.store)) ∙ u.stands in
    absurd (cc)

-- a held object without its marker
abbrev pub held : Entry
held = record { object = o; lender = None; stage = Held }

marker_missing : (is_marker (own_marker 1 4 held) && is_in (codes "obj/1/4" ∷ []) (name_of (own_marker 1 4 held))) ≡ false
unfolding marker_name marker_prefix object_name digits
marker_missing = refl

pub a_marker_short_is_not_sound : IsSound (closed_world (λ _. Some said) (bucket (codes "obj/1/4" ∷ []))) → ⊥
a_marker_short_is_not_sound sound =
    both_ways _
    (ap (λ x. is_marker (own_marker 1 4 held) && x) (in_bucket (codes "obj/1/4" ∷ []) (name_of (own_marker 1 4 held))) ∙ marker_missing)
    (sound.S1 1 4 held named_is_held refl)

-- a name with a leading zero
pub a_leading_zero_is_not_good : (images : ℕ → Folder → Type 0) → IsGood images (bucket (codes "obj/01/4" ∷ [])) → ⊥
a_leading_zero_is_not_good images good = a_leading_zero_is_off_form good.names
