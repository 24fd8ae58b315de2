-- What may be pending behind a write, and what a power cut then leaves.
use Rattle.std.proofs.Common.{◌≡◌, ◌⊎◌, ℕ, ◌+◌, ◌<◌, ◌≤◌, max, List, [], length, Option, Some, IsSomeAnd, IfSome, sym, ap, ◌∙◌, subst, inl, inr, arith}
use Rattle.std.proofs.lemmas.List.{take_all}
use Rattle.pb_devices.specs.Contents.{Contents, MayLeave, IsSettled, IsTorn}
use Rattle.pb_devices.specs.DiskCalls.{IsCreated, IsWritten, IsOver, IsScribble, IsScribbled, IsSynced, over}
use Rattle.pb_devices.specs.Reads.{IsWithin}
use Rattle.pb_devices.proofs.Options.{some_of, of_some, is_some_and}
use Rattle.pb_devices.proofs.Images.{image_cases}
use Rattle.pb_devices.proofs.Over.{length-over}
use Rattle.pb_gate_log.specs.Steps.{Torn, IsDurable, IsPending}
use Rattle.pb_gate_log.proofs.TornLemmas.{torn_range}

pub settled_durable : (bytes : List ℕ) (disk : Contents) (name : List ℕ) → IsSettled disk name → disk.seen name ≡ Some bytes → IsDurable bytes disk name
settled_durable bytes disk name settled is = record {
  seen = is;
  durable = subst (λ (s : Option (List ℕ)). IfSome s (λ b. disk.durable name ≡ b)) is settled.durable;
  whole = settled.nothing_pending;
}

pub durable_settled : (bytes : List ℕ) (disk : Contents) (name : List ℕ) → IsDurable bytes disk name → ((image : Option (List ℕ)) → disk.earlier name image → ⊥) → IsSettled disk name
durable_settled bytes disk name durable last = record {
  durable = subst (λ (s : Option (List ℕ)). IfSome s (λ b. disk.durable name ≡ b)) (sym durable.seen) durable.durable;
  nothing_pending = durable.whole;
  nothing_earlier = last;
}

pub created_durable : (old new : Contents) (name : List ℕ) → IsCreated old new name → IsDurable [] new name
created_durable old new name created = record { seen = created.seen; durable = created.durable; whole = created.pending }

pub synced_durable : (bytes : List ℕ) (old new : Contents) (name : List ℕ) → old.seen name ≡ Some bytes → IsSynced old new name → IsDurable bytes new name
synced_durable bytes old new name is synced = record { seen = synced.seen ∙ is; durable = synced.durable bytes is; whole = synced.pending }

-- nothing is pending yet
pub durable_pending : (bytes : List ℕ) (from to : ℕ) (disk : Contents) (name : List ℕ) → IsDurable bytes disk name → IsPending bytes from to disk name
durable_pending bytes from to disk name durable = record {
  seen = of_some (disk.seen name) (λ now. length now ≤ max (length bytes) to) bytes durable.seen (omega arith);
  durable = durable.durable;
  within = λ at is. absurd (durable.whole at is);
}

module _ (start : List ℕ) (from to : ℕ) (old new : Contents) (name : List ℕ) (at n : ℕ) where
  written_within : IsPending start from to old name → IsWritten old new name at n → from ≤ at → at + n ≤ to → (place : ℕ) → new.pending name place → (from ≤ place) × (place < to)
  written_within pending written lo hi place is =
      elim (written.pending place is) [
        | inl earlier ↦ pending.within place earlier
        | inr here ↦ (omega (arith, here.0), omega (arith, here.1))
      ]

  pending_with : IsPending start from to old name → IsWritten old new name at n → from ≤ at → at + n ≤ to → IsSomeAnd (new.seen name) (λ now. length now ≤ max (length start) to) → IsPending start from to new name
  pending_with pending written lo hi seen = record {
    seen = seen;
    durable = written.durable ∙ pending.durable;
    within = written_within pending written lo hi;
  }

  -- a write within the range
  pub over_pending : (bytes : List ℕ) → length bytes ≡ n → IsWithin at (old.seen name) → IsPending start from to old name → IsWritten old new name at n → IsOver old new name at bytes → from ≤ at → at + n ≤ to → IsPending start from to new name
  over_pending bytes size place pending written is lo hi =
      let found = some_of (old.seen name) (λ now. length now ≤ max (length start) to) pending.seen in
      let inside : at ≤ length found.0 = is_some_and (old.seen name) (λ now. at ≤ length now) found.0 found.1 place in
      pending_with pending written lo hi
      (of_some (new.seen name) (λ now. length now ≤ max (length start) to) (over found.0 at bytes) (is found.0 found.1)
      (omega (arith, length-over found.0 at bytes inside, found.2)))

  -- a write within the range that failed
  pub scribbled_pending : IsPending start from to old name → IsWritten old new name at n → IsScribbled old new name at n → from ≤ at → at + n ≤ to → IsPending start from to new name
  scribbled_pending pending written is lo hi =
      let found = some_of (old.seen name) (λ now. length now ≤ max (length start) to) pending.seen in
      let left = some_of (new.seen name) (IsScribble found.0 at n) (is found.0 found.1) in
      pending_with pending written lo hi
      (of_some (new.seen name) (λ now. length now ≤ max (length start) to) left.0 left.1
      (omega (arith, left.2.no_longer, found.2)))

-- a power cut leaves the durable bytes outside the range
pub pending_image : (start : List ℕ) (from to : ℕ) (disk : Contents) (name : List ℕ) (image : Option (List ℕ)) → IsPending start from to disk name → from ≤ length start → MayLeave disk name image → disk.earlier name image ⊎ IsSomeAnd image (Torn from to start)
pending_image start from to disk name image pending place left =
    let found = some_of (disk.seen name) (λ now. length now ≤ max (length start) to) pending.seen in
    elim (image_cases disk name image found.0 found.1 left) [
      | inl earlier ↦ inl earlier
      | inr torn ↦
          let whole = some_of image (IsTorn (disk.durable name) (disk.pending name) found.0) torn in
          inr (of_some image (Torn from to start) whole.0 whole.1
          (torn_range start found.0 whole.0 (disk.pending name) from to place pending.within found.2
          (subst (λ (d : List ℕ). IsTorn d (disk.pending name) found.0 whole.0) pending.durable whole.2)))
    ]

-- where nothing is pending, it leaves these bytes
pub durable_image : (bytes : List ℕ) (disk : Contents) (name : List ℕ) (image : Option (List ℕ)) → IsDurable bytes disk name → MayLeave disk name image → disk.earlier name image ⊎ (image ≡ Some bytes)
durable_image bytes disk name image durable left =
    elim (pending_image bytes (length bytes) (length bytes) disk name image (durable_pending bytes (length bytes) (length bytes) disk name durable) (omega arith) left) [
      | inl earlier ↦ inl earlier
      | inr torn ↦
          let whole = some_of image (Torn (length bytes) (length bytes) bytes) torn in
          let no_longer = whole.2.no_longer in
          inr (whole.1 ∙ ap Some (sym (take_all (length bytes) whole.0 (omega arith)) ∙ whole.2.before ∙ take_all (length bytes) bytes (omega arith)))
    ]

-- the same, of a disk on which no more creations and removals are pending than at first
pub left_by : (start : List ℕ) (from to : ℕ) (first disk : Contents) (name : List ℕ) (image : Option (List ℕ)) → ((other : Option (List ℕ)) → disk.earlier name other → first.earlier name other) → IsPending start from to disk name → from ≤ length start → MayLeave disk name image → first.earlier name image ⊎ IsSomeAnd image (Torn from to start)
left_by start from to first disk name image earlier pending place left =
    elim (pending_image start from to disk name image pending place left) [
      | inl before ↦ inl (earlier image before)
      | inr torn ↦ inr torn
    ]

-- a write ends within the file
pub over_within : (old new : Contents) (name : List ℕ) (at end : ℕ) (bytes : List ℕ) → IsWithin at (old.seen name) → IsOver old new name at bytes → end ≡ at + length bytes → IsWithin end (new.seen name)
over_within old new name at end bytes place is same =
    let found = some_of (old.seen name) (λ now. at ≤ length now) place in
    of_some (new.seen name) (λ now. end ≤ length now) (over found.0 at bytes) (is found.0 found.1)
    (omega (arith, length-over found.0 at bytes found.2, same))

pub within_durable : (at : ℕ) (start : List ℕ) (disk : Contents) (name : List ℕ) → IsWithin at (disk.seen name) → IsDurable start disk name → at ≤ length start
within_durable at start disk name place durable = is_some_and (disk.seen name) (λ now. at ≤ length now) start durable.seen place
