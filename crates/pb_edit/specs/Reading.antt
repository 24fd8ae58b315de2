-- Reading an edit from left to right: what begins bytes, and the bytes behind it.
use Rattle.std.specs.Prelude.{◌≡◌, ℕ, zero, suc, ◌-◌, List, [], ◌∷◌, length, Bool, true, ◌==◌, nat_lt, nat_le, if◌then◌else◌, Option, Some, None, Result, Ok, Err}
use Rattle.std.specs.List.{slice_get}
use Rattle.pb_bytes.specs.Reading.{◌>>=◌, number_split, field_split}
use Rattle.pb_edit.specs.declared.read.ReadError.{ReadError}
use Rattle.pb_edit.specs.declared.read.ReadError.TheVariants.{Off, NoMemory}
use Rattle.pb_edit.specs.Edit.{DeletedItem, PhysicalItem, VirtualItem, CreatedItem, VersionEdit}
use Rattle.pb_edit.specs.Grammar.{deleted_below, physical_below, virtual_below, created_below}

-- what a function answered, seen by view, is what reading gives, unless memory ran out
abbrev pub Gives : {X Y : Type 0} → (X → Y) → Result X ReadError → Option Y → Type 0
Gives view (Ok x) read = read ≡ Some (view x)
Gives view (Err Off) read = read ≡ None
Gives view (Err NoMemory) read = Unit {0}

-- ---- parts of an item

unfoldable pub level_at : List ℕ → Option (ℕ × List ℕ)
level_at [] = None
level_at (level ∷ rest) = if nat_le level 6 then Some (level, rest) else None

-- ---- the contents of the kinds

unfoldable pub deleted_at : List ℕ → Option (DeletedItem × List ℕ)
deleted_at bytes = do
  level ← level_at bytes
  number ← number_split level.1
  Some (record { level = level.0; number = number.0 }, number.1)

unfoldable pub physical_at : List ℕ → Option (PhysicalItem × List ℕ)
physical_at bytes = do
  level ← level_at bytes
  number ← number_split level.1
  rank ← number_split number.1
  size ← number_split rank.1
  lo ← field_split size.1
  hi ← field_split lo.1
  Some (record { level = level.0; number = number.0; rank = rank.0; size = size.0; lo = lo.0; hi = hi.0 }, hi.1)

unfoldable pub virtual_at : List ℕ → Option (VirtualItem × List ℕ)
virtual_at bytes = do
  level ← level_at bytes
  number ← number_split level.1
  rank ← number_split number.1
  backing ← number_split rank.1
  lo ← field_split backing.1
  hi ← field_split lo.1
  prefix ← field_split hi.1
  suffix ← field_split prefix.1
  Some (record { level = level.0; number = number.0; rank = rank.0; backing = backing.0; lo = lo.0; hi = hi.0; prefix = prefix.0; suffix = suffix.0 }, suffix.1)

unfoldable pub created_at : List ℕ → Option (CreatedItem × List ℕ)
created_at bytes = do
  number ← number_split bytes
  size ← number_split number.1
  Some (record { number = number.0; size = size.0 }, size.1)

-- ---- numbers and lists of an edit

-- the number of this kind, where its item begins the bytes
unfoldable pub optional_at : ℕ → List ℕ → Option (Option ℕ × List ℕ)
optional_at kind [] = Some (None, [])
optional_at kind (byte ∷ rest) = if byte == kind then (number_split rest >>= λ number. Some (Some number.0, number.1)) else Some (None, byte ∷ rest)

-- a kind of items: its byte, how its content is read, and which item stands below which
pub record ItemKind (X : Type 0) : Type 0 where
  pub byte : ℕ
  pub content_at : List ℕ → Option (X × List ℕ)
  pub is_below : X → X → Bool

-- an item of the kind begins here
abbrev pub begins : {X : Type 0} → ItemKind X → ℕ → Bool
begins kind byte = byte == kind.byte

-- what stands behind the byte of the item that begins the bytes
abbrev pub content_from : {X : Type 0} → ItemKind X → List ℕ → Option (List ℕ)
content_from kind [] = None
content_from kind (byte ∷ rest) = if begins kind byte then Some rest else None

abbrev pub may_follow : {X : Type 0} → ItemKind X → Option X → X → Bool
may_follow kind None x = true
may_follow kind (Some last) x = kind.is_below last x

-- the last of the items before
abbrev pub last_of : {X : Type 0} → List X → Option X
last_of xs = slice_get xs (length xs - 1)

-- the content of an item that may follow the last one
abbrev pub content_behind : {X : Type 0} → ItemKind X → Option X → List ℕ → Option (X × List ℕ)
content_behind kind last bytes = kind.content_at bytes >>= λ read. if may_follow kind last read.0 then Some read else None

-- the items of the kind that begin the bytes, behind the last one; at most so many
unfoldable pub items_at : {X : Type 0} → ItemKind X → ℕ → Option X → List ℕ → Option (List X × List ℕ)
items_at kind most last [] = Some ([], [])
items_at kind zero last (byte ∷ rest) = if begins kind byte then None else Some ([], byte ∷ rest)
items_at kind (suc most) last (byte ∷ rest) =
    if begins kind byte then
    (content_behind kind last rest >>= λ read. items_at kind most (Some read.0) read.1 >>= λ others. Some (read.0 ∷ others.0, others.1))
    else Some ([], byte ∷ rest)

abbrev pub all_at : {X : Type 0} → ItemKind X → List ℕ → Option (List X × List ℕ)
all_at kind bytes = items_at kind (length bytes) None bytes

abbrev pub deleted_kind : ItemKind DeletedItem
deleted_kind = record { byte = 6; content_at = deleted_at; is_below = deleted_below }

abbrev pub physical_kind : ItemKind PhysicalItem
physical_kind = record { byte = 7; content_at = physical_at; is_below = physical_below }

abbrev pub virtual_kind : ItemKind VirtualItem
virtual_kind = record { byte = 8; content_at = virtual_at; is_below = virtual_below }

abbrev pub created_kind : ItemKind CreatedItem
created_kind = record { byte = 9; content_at = created_at; is_below = created_below }

abbrev pub removed_kind : ItemKind ℕ
removed_kind = record { byte = 10; content_at = number_split; is_below = nat_lt }

-- ---- an edit

-- the five numbers, no lists, and the bytes behind them
unfoldable pub numbers_at : List ℕ → Option (VersionEdit × List ℕ)
numbers_at bytes = do
  accepted ← optional_at 1 bytes
  next ← optional_at 2 accepted.1
  log ← optional_at 3 next.1
  flushed ← optional_at 4 log.1
  format ← optional_at 5 flushed.1
  Some (
    record {
      accepted = accepted.0;
      next = next.0;
      log = log.0;
      flushed = flushed.0;
      format = format.0;
      deleted = [];
      physical = [];
      virtuals = [];
      created = [];
      removed = [];
    },
    format.1,
  )

unfoldable pub lists_at : VersionEdit → List ℕ → Option (VersionEdit × List ℕ)
lists_at numbers bytes = do
  deleted ← all_at deleted_kind bytes
  physical ← all_at physical_kind deleted.1
  virtuals ← all_at virtual_kind physical.1
  created ← all_at created_kind virtuals.1
  removed ← all_at removed_kind created.1
  Some (
    record {
      accepted = numbers.accepted;
      next = numbers.next;
      log = numbers.log;
      flushed = numbers.flushed;
      format = numbers.format;
      deleted = deleted.0;
      physical = physical.0;
      virtuals = virtuals.0;
      created = created.0;
      removed = removed.0;
    },
    removed.1,
  )

-- all of the bytes, of which there are some
unfoldable pub edit_at : List ℕ → Option VersionEdit
edit_at [] = None
edit_at (byte ∷ rest) = do
  numbers ← numbers_at (byte ∷ rest)
  edit ← lists_at numbers.0 numbers.1
  if length edit.1 == 0 then Some edit.0 else None
