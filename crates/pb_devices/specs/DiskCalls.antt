-- What each call of a disk does to the contents of its folder.
use Rattle.std.specs.Prelude.{◌≡◌, ℕ, ◌+◌, ◌<◌, ◌≤◌, ◌⊎◌, ◌++◌, max, List, [], length, take, drop, slice_index, Option, Some, None, IsSomeAnd}
use Rattle.pb_devices.specs.Contents.{Contents, MayLeave, IsImage, IsSettled}

-- nothing has changed of a name, and a power cut leaves nothing new of it
pub record StaysAt (old new : Contents) (name : List ℕ) : Type 0 where
  pub seen : new.seen name ≡ old.seen name
  pub durable : new.durable name ≡ old.durable name
  pub pending : (at : ℕ) → new.pending name at → old.pending name at
  pub earlier : (image : Option (List ℕ)) → new.earlier name image → old.earlier name image

-- nothing has changed
abbrev pub Stays : Contents → Contents → Type 0
Stays old new = (name : List ℕ) → StaysAt old new name

-- nothing has changed of any other name
abbrev pub OthersStay : Contents → Contents → List ℕ → Type 0
OthersStay old new name = (other : List ℕ) → (other ≡ name → ⊥) → StaysAt old new other

-- the file is empty now. Until a barrier, a power cut may leave what it might have left before
pub record IsCreated (old new : Contents) (name : List ℕ) : Type 0 where
  pub seen : new.seen name ≡ Some []
  pub durable : new.durable name ≡ []
  pub pending : (at : ℕ) → new.pending name at → ⊥
  pub earlier : (image : Option (List ℕ)) → new.earlier name image → MayLeave old name image
  pub others : OthersStay old new name

-- n bytes from a place on are pending beside those that were, and no byte has become durable
pub record IsWritten (old new : Contents) (name : List ℕ) (at n : ℕ) : Type 0 where
  pub durable : new.durable name ≡ old.durable name
  pub pending : (place : ℕ) → new.pending name place → old.pending name place ⊎ ((at ≤ place) × (place < at + n))
  pub earlier : (image : Option (List ℕ)) → new.earlier name image → old.earlier name image
  pub others : OthersStay old new name

-- bytes written over others from a place on
abbrev pub over : List ℕ → ℕ → List ℕ → List ℕ
over before at bytes = take at before ++ bytes ++ drop (at + length bytes) before

-- reads give the bytes over those that stood there
abbrev pub IsOver : Contents → Contents → List ℕ → ℕ → List ℕ → Type 0
IsOver old new name at bytes = (before : List ℕ) → old.seen name ≡ Some before → new.seen name ≡ Some (over before at bytes)

-- n bytes from a place on may be any, and the file ends anywhere between its old end and that of the whole write
pub record IsScribble (before : List ℕ) (at n : ℕ) (after : List ℕ) : Type 0 where
  pub outside : (place : ℕ) → place < length before → (place < at) ⊎ (at + n ≤ place) → slice_index after place ≡ slice_index before place
  pub no_shorter : length before ≤ length after
  pub no_longer : length after ≤ max (length before) (at + n)

abbrev pub IsScribbled : Contents → Contents → List ℕ → ℕ → ℕ → Type 0
IsScribbled old new name at n = (before : List ℕ) → old.seen name ≡ Some before → IsSomeAnd (new.seen name) (IsScribble before at n)

-- the file's bytes are durable as reads give them. Its creation may still not have happened
pub record IsSynced (old new : Contents) (name : List ℕ) : Type 0 where
  pub seen : new.seen name ≡ old.seen name
  pub durable : (bytes : List ℕ) → old.seen name ≡ Some bytes → new.durable name ≡ bytes
  pub pending : (at : ℕ) → new.pending name at → ⊥
  pub earlier : (image : Option (List ℕ)) → new.earlier name image → old.earlier name image
  pub others : OthersStay old new name

-- reads give the same, and a power cut leaves that alone
pub record AllSettled (old new : Contents) : Type 0 where
  pub seen : (name : List ℕ) → new.seen name ≡ old.seen name
  pub settled : (name : List ℕ) → IsSettled new name

-- the file is gone. Until a barrier, a power cut may leave what it might have left before
pub record IsRemoved (old new : Contents) (name : List ℕ) : Type 0 where
  pub seen : new.seen name ≡ None
  pub earlier : (image : Option (List ℕ)) → new.earlier name image → MayLeave old name image
  pub absent : old.seen name ≡ None → Stays old new
  pub others : OthersStay old new name

-- the power was cut: reads give one of the images, and a power cut leaves that alone
pub record IsCut (old new : Contents) : Type 0 where
  pub left : IsImage old new.seen
  pub settled : (name : List ℕ) → IsSettled new name
