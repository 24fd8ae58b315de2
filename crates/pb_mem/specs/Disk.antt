-- What a disk in memory holds.
use Rattle.std.specs.Prelude.{◌≡◌, ℕ, ◌⊎◌, List, Option, Some, if◌then◌else◌, refl}
use Rattle.std.specs.FinMap as finite
use Rattle.std.specs.Coded.{Coded, code_by, coded×, coded_list, coded_ℕ}
use Rattle.pb_devices.specs.Contents.{Contents}
use Rattle.std.specs.FinMap.{get}
use Rattle.pb_mem.specs.Calls.{CallCounts, with_call, with_want, calls_code}
use Rattle.pb_mem.specs.Files.{scribble}
use Rattle.pb_mem.specs.Slots.{SlotView, Slots, slot_code, contents_in, happens, ChangesAt}

pub record DiskView : Type 0 where
  -- what stands under each name, and what stood there since the last barrier
  pub slots : Slots
  pub calls : CallCounts
  -- the image that a power cut leaves, and what a changing call that fails does
  pub pick : ℕ

abbrev pub disk_code : Coded DiskView
disk_code = code_by (Slots × (CallCounts × ℕ)) (coded× (finite.code (coded_list coded_ℕ) slot_code) (coded× calls_code coded_ℕ))
    (λ d. (d.slots, (d.calls, d.pick))) (λ p. record { slots = p.0; calls = p.1.0; pick = p.1.1 }) (λ _. refl)

-- what reads give, and what a power cut may leave
abbrev pub held : DiskView → Contents
held disk = contents_in disk.slots

-- of a call that failed: one that is listed has left this slot under the name and no other has changed, one that found no
-- memory for itself has changed nothing
abbrev pub LeavesAt : DiskView → DiskView → List ℕ → Option SlotView → Type 0
LeavesAt old new name slot =
    (new.calls ≡ with_call old.calls) × ChangesAt old.slots new.slots name slot
    ⊎ (new.calls ≡ with_want (with_call old.calls)) × (new.slots ≡ old.slots)

-- of a creation or removal that failed: one that is listed has happened exactly where the pick lets it, one that found no
-- memory for itself hasn't
abbrev pub HappensAtPick : DiskView → DiskView → List ℕ → Option SlotView → Type 0
HappensAtPick old new name after = LeavesAt old new name (if happens old.pick then after else get old.slots name)

-- reads give of a file what a write that failed leaves by the pick
abbrev pub ReadsScribbled : DiskView → DiskView → List ℕ → ℕ → List ℕ → Type 0
ReadsScribbled old new name at bytes =
    (before : List ℕ) → (held old).seen name ≡ Some before → (held new).seen name ≡ Some (scribble old.pick before at bytes)
