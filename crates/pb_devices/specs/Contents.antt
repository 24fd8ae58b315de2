-- What a folder holds, by name, and what a power cut now may leave of it.
use Rattle.std.specs.Prelude.{◌≡◌, ℕ, ◌<◌, ◌≤◌, ◌⊎◌, if◌then◌else◌, Bool, List, length, Option, Some, None, IsSomeAnd, IfSome, slice_index}

-- the files of a folder: the bytes of each name, none where there is no such file
abbrev pub Folder : Type 0
Folder = List ℕ → Option (List ℕ)

pub record Contents : Type 1 where
  -- what reads give
  pub seen : List ℕ → Option (List ℕ)
  -- the bytes that are durable, of a file that stands
  pub durable : List ℕ → List ℕ
  -- the places that were written since
  pub pending : List ℕ → ℕ → Type 0
  -- what creations and removals without a barrier behind them may leave in place of the file
  pub earlier : List ℕ → Option (List ℕ) → Type 0

-- an image of a file: durable bytes outside the pending places stay, and the file ends anywhere between the durable length
-- and the length that reads give
pub record IsTorn (durable : List ℕ) (pending : ℕ → Type 0) (seen image : List ℕ) : Type 0 where
  pub kept : (at : ℕ) → at < length durable → (pending at → ⊥) → slice_index image at ≡ slice_index durable at
  pub no_shorter : length durable ≤ length image
  pub no_longer : length image ≤ length seen

-- an image of a name: no file where reads give none, else a torn file
abbrev pub IsPart : List ℕ → (ℕ → Type 0) → Option (List ℕ) → Option (List ℕ) → Type 0
IsPart durable pending None image = image ≡ None
IsPart durable pending (Some seen) image = IsSomeAnd image (IsTorn durable pending seen)

-- what a power cut may leave of a name
abbrev pub MayLeave : Contents → List ℕ → Option (List ℕ) → Type 0
MayLeave disk name image = disk.earlier name image ⊎ IsPart (disk.durable name) (disk.pending name) (disk.seen name) image

-- what a power cut may leave of the folder
abbrev pub IsImage : Contents → Folder → Type 0
IsImage disk folder = (name : List ℕ) → MayLeave disk name (folder name)

-- what reads give of a name is durable, and a power cut leaves nothing else
pub record IsSettled (disk : Contents) (name : List ℕ) : Type 0 where
  pub durable : IfSome (disk.seen name) (λ bytes. disk.durable name ≡ bytes)
  pub nothing_pending : (at : ℕ) → disk.pending name at → ⊥
  pub nothing_earlier : (image : Option (List ℕ)) → disk.earlier name image → ⊥

-- reads give these bytes, and they are durable
pub record HasFile (name bytes : List ℕ) (disk : Contents) : Type 0 where
  pub seen : disk.seen name ≡ Some bytes
  pub settled : IsSettled disk name

-- of a name, reads give the same, no image is new, and what was durable alone is
pub record KeptAt (old new : Contents) (name : List ℕ) : Type 0 where
  pub reads : new.seen name ≡ old.seen name
  pub images : (image : Option (List ℕ)) → MayLeave new name image → MayLeave old name image
  pub settled : IsSettled old name → IsSettled new name

-- each name that isn't touched is kept
abbrev pub KeptBut : (List ℕ → Type 0) → Contents → Contents → Type 0
KeptBut IsTouched old new = (name : List ℕ) → (IsTouched name → ⊥) → KeptAt old new name

-- each other name is kept
abbrev pub KeepsOthers : Contents → Contents → List ℕ → Type 0
KeepsOthers old new name = KeptBut (λ other. other ≡ name) old new

-- what reads give of the names that a test tells, and a folder's own files else
abbrev pub with_seen : Contents → (List ℕ → Bool) → Folder → Folder
with_seen disk is_changed folder name = if is_changed name then disk.seen name else folder name
