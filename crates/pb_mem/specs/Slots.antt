-- What stands under the names of a folder in memory, and what stood there since the last barrier.
use Rattle.std.specs.Prelude.{◌≡◌, ℕ, ◌⊎◌, ◌%◌, ◌==◌, ◌||◌, ◌&&◌, nat_lt, if◌then◌else◌, IsSomeAnd, ◌++◌, Bool, List, [], ◌∷◌, Option, Some, None, option_map, is_some, refl}
use Rattle.std.specs.Ordering.{nat_cmp, eq_by_cmp}
use Rattle.std.specs.Cmp.Lexicographic.{slice_cmp}
use Rattle.std.specs.FinMap.{FinMap, get}
use Rattle.std.specs.Coded.{Coded, code_by, coded×, coded_list, coded_option}
use Rattle.pb_devices.specs.Contents.{Contents, IsPart}
use Rattle.pb_mem.specs.Files.{FileView, file_code, durable_bytes, IsPending, synced, empty_file, IsPicked}

pub record SlotView : Type 0 where
  -- the file that stands, if there is one
  pub file : Option FileView
  -- what stood before each creation and removal since the last barrier, the oldest first
  pub earlier : List (Option FileView)

abbrev pub slot_code : Coded SlotView
slot_code = code_by (Option FileView × List (Option FileView)) (coded× (coded_option file_code) (coded_list (coded_option file_code)))
    (λ s. (s.file, s.earlier)) (λ p. record { file = p.0; earlier = p.1 }) (λ _. refl)

-- what stands under each name
abbrev pub Slots : Type 0
Slots = FinMap (slice_cmp nat_cmp) SlotView

abbrev pub file_of : Option SlotView → Option FileView
file_of None = None
file_of (Some slot) = slot.file

abbrev pub earlier_of : Option SlotView → List (Option FileView)
earlier_of None = []
earlier_of (Some slot) = slot.earlier

abbrev pub seen_of : Option FileView → Option (List ℕ)
seen_of None = None
seen_of (Some file) = Some file.seen

abbrev pub durable_of : Option FileView → List ℕ
durable_of None = []
durable_of (Some file) = durable_bytes file

abbrev pub IsPendingOf : Option FileView → ℕ → Type 0
IsPendingOf None place = ⊥
IsPendingOf (Some file) place = IsPending file place

-- what a power cut may leave of what stood under a name
abbrev pub IsImageOf : Option FileView → Option (List ℕ) → Type 0
IsImageOf file image = IsPart (durable_of file) (IsPendingOf file) (seen_of file) image

-- what it may leave of one of several
abbrev pub IsImageOfAny : List (Option FileView) → Option (List ℕ) → Type 0
IsImageOfAny [] image = ⊥
IsImageOfAny (file ∷ files) image = IsImageOf file image ⊎ IsImageOfAny files image

-- what the folder holds
abbrev pub contents_of : (List ℕ → Option SlotView) → Contents
contents_of slots = record {
  seen = λ name. seen_of (file_of (slots name));
  durable = λ name. durable_of (file_of (slots name));
  pending = λ name place. IsPendingOf (file_of (slots name)) place;
  earlier = λ name image. IsImageOfAny (earlier_of (slots name)) image;
}

abbrev pub contents_in : Slots → Contents
contents_in slots = contents_of (λ name. get slots name)

-- whether a pick lets what has no barrier behind it have happened
abbrev pub happens : ℕ → Bool
happens pick = (pick == 1) || (nat_lt 1 pick && (pick % 2 == 0))

-- the first, or another where there is none
abbrev pub first_or : Option FileView → List (Option FileView) → Option FileView
first_or other [] = other
first_or other (file ∷ files) = file

-- what stands after a power cut, of what stood at the last barrier and what stands
abbrev pub survivor : ℕ → Option SlotView → Option FileView
survivor pick None = None
survivor pick (Some slot) = if happens pick then slot.file else first_or slot.file slot.earlier

abbrev pub IsPickedOf : ℕ → Option FileView → Option FileView → Type 0
IsPickedOf pick None new = new ≡ None
IsPickedOf pick (Some file) new = IsSomeAnd new (λ after. IsPicked pick file after.seen × (after ≡ synced after))

-- what stands is durable, and nothing else is possible
abbrev pub settled : SlotView → SlotView
settled slot = record { file = option_map synced slot.file; earlier = [] }

-- the slot of one name is another now, and no other has changed
abbrev pub ChangesAt : Slots → Slots → List ℕ → Option SlotView → Type 0
ChangesAt old new name after =
    (other : List ℕ) → get new other ≡ (if eq_by_cmp (slice_cmp nat_cmp) other name then after else get old other)

-- the slot of a name with its file changed
abbrev pub with_file : (FileView → FileView) → Option SlotView → Option SlotView
with_file change None = None
with_file change (Some slot) = Some (record slot { file = option_map change slot.file })

-- an empty file stands now
abbrev pub created : Option SlotView → SlotView
created slot = record { file = Some empty_file; earlier = earlier_of slot ++ file_of slot ∷ [] }

-- no file stands any more
abbrev pub removed : Option SlotView → SlotView
removed slot = record { file = None; earlier = earlier_of slot ++ file_of slot ∷ [] }

-- the slot of a name after a removal, which changes nothing where no file stands
abbrev pub after_removal : Option SlotView → Option SlotView
after_removal slot = if is_some (file_of slot) then Some (removed slot) else slot

-- what stands is durable, and nothing else is possible
pub record AreSettled (old new : Slots) : Type 0 where
  pub file : (name : List ℕ) → file_of (get new name) ≡ option_map synced (file_of (get old name))
  pub earlier : (name : List ℕ) → earlier_of (get new name) ≡ []

-- under each name stands what a pick leaves, and nothing else is possible
pub record ArePicked (pick : ℕ) (old new : Slots) : Type 0 where
  pub file : (name : List ℕ) → IsPickedOf pick (survivor pick (get old name)) (file_of (get new name))
  pub earlier : (name : List ℕ) → earlier_of (get new name) ≡ []
