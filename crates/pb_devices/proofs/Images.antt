-- What the calls of a disk do to what a power cut may leave of a name.
use Rattle.std.proofs.Common.{◌≡◌, ℕ, ◌⊎◌, inl, inr, List, [], length, Option, Some, None, IsSomeAnd, IfSome, sym, subst, ap, ◌∙◌, arith}
use Rattle.std.proofs.lemmas.Grind.{same_number_lists}
use Rattle.pb_devices.specs.Contents.{Contents, IsTorn, IsPart, MayLeave, IsSettled}
use Rattle.pb_devices.specs.DiskCalls.{StaysAt, IsCreated, IsSynced, AllSettled, IsRemoved}
use Rattle.pb_devices.proofs.Options.{some_of, of_some}

-- nothing is pending: a torn file is what reads give
torn_settled : (durable seen image : List ℕ) (pending : ℕ → Type 0) → durable ≡ seen → ((at : ℕ) → pending at → ⊥) → IsTorn durable pending seen image → image ≡ seen
torn_settled durable seen image pending same none torn =
    let lengths : length image ≡ length durable = omega (arith, torn.no_shorter, torn.no_longer, ap length same) in
    same_number_lists image durable lengths (λ k h. torn.kept k (omega (arith, h, lengths)) (none k)) ∙ same

part_settled : (durable : List ℕ) (pending : ℕ → Type 0) (seen image : Option (List ℕ)) → IfSome seen (λ bytes. durable ≡ bytes) → ((at : ℕ) → pending at → ⊥) → IsPart durable pending seen image → image ≡ seen
part_settled durable pending None image same none part = part
part_settled durable pending (Some bytes) image same none part =
    let torn = some_of image (IsTorn durable pending bytes) part in
    torn.1 ∙ ap Some (torn_settled durable bytes torn.0 pending same none torn.2)

-- a power cut leaves of a settled name what reads give
pub settled_image : (disk : Contents) (name : List ℕ) (image : Option (List ℕ)) → IsSettled disk name → MayLeave disk name image → image ≡ disk.seen name
settled_image disk name image settled left =
    elim left [
      | inl earlier ↦ absurd (settled.nothing_earlier image earlier)
      | inr part ↦ part_settled (disk.durable name) (disk.pending name) (disk.seen name) image settled.durable settled.nothing_pending part
    ]

torn_weaker : (durable seen image : List ℕ) (before now : ℕ → Type 0) → ((at : ℕ) → now at → before at) → IsTorn durable now seen image → IsTorn durable before seen image
torn_weaker durable seen image before now fewer torn = record {
  kept = λ at h none. torn.kept at h (λ is. none (fewer at is));
  no_shorter = torn.no_shorter;
  no_longer = torn.no_longer;
}

part_weaker : (durable : List ℕ) (before now : ℕ → Type 0) (seen image : Option (List ℕ)) → ((at : ℕ) → now at → before at) → IsPart durable now seen image → IsPart durable before seen image
part_weaker durable before now None image fewer part = part
part_weaker durable before now (Some bytes) image fewer part =
    let torn = some_of image (IsTorn durable now bytes) part in
    of_some image (IsTorn durable before bytes) torn.0 torn.1 (torn_weaker durable bytes torn.0 before now fewer torn.2)

-- of a name of which nothing has changed, no image is new
pub stays_image : (old new : Contents) (name : List ℕ) (image : Option (List ℕ)) → StaysAt old new name → MayLeave new name image → MayLeave old name image
stays_image old new name image stays left =
    elim left [
      | inl earlier ↦ inl (stays.earlier image earlier)
      | inr part ↦ inr (
          subst (λ (d : List ℕ). IsPart d (old.pending name) (old.seen name) image) stays.durable
          (subst (λ (s : Option (List ℕ)). IsPart (new.durable name) (old.pending name) s image) stays.seen
          (part_weaker (new.durable name) (old.pending name) (new.pending name) (new.seen name) image stays.pending part)))
    ]

pub stays_settled : (old new : Contents) (name : List ℕ) → StaysAt old new name → IsSettled old name → IsSettled new name
stays_settled old new name stays settled = record {
  durable =
      subst (λ (s : Option (List ℕ)). IfSome s (λ bytes. new.durable name ≡ bytes)) (sym stays.seen)
      (subst (λ (d : List ℕ). IfSome (old.seen name) (λ bytes. d ≡ bytes)) (sym stays.durable) settled.durable);
  nothing_pending = λ at is. settled.nothing_pending at (stays.pending at is);
  nothing_earlier = λ image is. settled.nothing_earlier image (stays.earlier image is);
}

-- a barrier leaves no new image where what reads give was one
pub barred_image : (old new : Contents) (name : List ℕ) (image : Option (List ℕ)) → MayLeave old name (old.seen name) → AllSettled old new → MayLeave new name image → MayLeave old name image
barred_image old new name image seen barred left =
    subst (MayLeave old name) (sym (settled_image new name image (barred.settled name) left ∙ barred.seen name)) seen

part_none : (durable : List ℕ) (pending : ℕ → Type 0) (seen image : Option (List ℕ)) → seen ≡ None → IsPart durable pending seen image → image ≡ None
part_none durable pending None image is part = part
part_none durable pending (Some bytes) image is part = cc

part_some : (durable : List ℕ) (pending : ℕ → Type 0) (seen image : Option (List ℕ)) (bytes : List ℕ) → seen ≡ Some bytes → IsPart durable pending seen image → IsSomeAnd image (IsTorn durable pending bytes)
part_some durable pending seen image bytes is part = subst (λ (s : Option (List ℕ)). IsPart durable pending s image) is part

-- a power cut leaves of a file that reads give what stood there earlier, or a torn file
pub image_cases : (disk : Contents) (name : List ℕ) (image : Option (List ℕ)) (seen : List ℕ) → disk.seen name ≡ Some seen → MayLeave disk name image → disk.earlier name image ⊎ IsSomeAnd image (IsTorn (disk.durable name) (disk.pending name) seen)
image_cases disk name image seen is left =
    elim left [
      | inl earlier ↦ inl earlier
      | inr part ↦ inr (part_some (disk.durable name) (disk.pending name) (disk.seen name) image seen is part)
    ]

-- a power cut after a creation leaves what it might have left before, or an empty file
pub created_image : (old new : Contents) (name : List ℕ) (image : Option (List ℕ)) → IsCreated old new name → MayLeave new name image → MayLeave old name image ⊎ (image ≡ Some [])
created_image old new name image created left =
    elim (image_cases new name image [] created.seen left) [
      | inl earlier ↦ inl (created.earlier image earlier)
      | inr torn ↦
          let found = some_of image (IsTorn (new.durable name) (new.pending name) []) torn in
          inr (found.1 ∙ ap Some (torn_settled (new.durable name) [] found.0 (new.pending name) created.durable created.pending found.2))
    ]

-- a power cut after a sync leaves what a creation or removal before it might, or what reads give
pub synced_image : (old new : Contents) (name : List ℕ) (image : Option (List ℕ)) (bytes : List ℕ) → old.seen name ≡ Some bytes → IsSynced old new name → MayLeave new name image → old.earlier name image ⊎ (image ≡ Some bytes)
synced_image old new name image bytes is synced left =
    elim (image_cases new name image bytes (synced.seen ∙ is) left) [
      | inl earlier ↦ inl (synced.earlier image earlier)
      | inr torn ↦
          let found = some_of image (IsTorn (new.durable name) (new.pending name) bytes) torn in
          inr (found.1 ∙ ap Some (torn_settled (new.durable name) bytes found.0 (new.pending name) (synced.durable bytes is) synced.pending found.2))
    ]

-- a power cut after a removal leaves what it might have left before, or no file
pub removed_image : (old new : Contents) (name : List ℕ) (image : Option (List ℕ)) → IsRemoved old new name → MayLeave new name image → MayLeave old name image ⊎ (image ≡ None)
removed_image old new name image removed left =
    elim left [
      | inl earlier ↦ inl (removed.earlier image earlier)
      | inr part ↦ inr (part_none (new.durable name) (new.pending name) (new.seen name) image removed.seen part)
    ]
