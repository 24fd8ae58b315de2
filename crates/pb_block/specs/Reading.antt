-- Reading a block from left to right: its parts, and the entry that begins bytes.
use Rattle.std.specs.Prelude.{ℕ, zero, suc, ◌+◌, ◌-◌, ◌*◌, ◌%◌, ◌==◌, ◌&&◌, nat_le, nat_lt, nat_eq, Bool, true, false, if◌then◌else◌}
use Rattle.std.specs.Prelude.{List, [], ◌∷◌, ◌++◌, length, take, drop, Option, Some, None}
use Rattle.std.specs.Option.{unwrap_or, option_map}
use Rattle.std.specs.Ordering.{is_lt}
use Rattle.std.specs.Cmp.Lexicographic.{pointwise}
use Rattle.pb_bytes.specs.BigEndian.{be32, number_of}
use Rattle.pb_bytes.specs.Reading.{◌>>=◌, varint_split}
use Rattle.pb_keys.specs.Key.{is_key, is_key_length, key_cmp}
use Rattle.pb_keys.specs.Value.{is_value}
use Rattle.pb_block.specs.Blocks.{BlockRow, shared_at}

-- ---- one entry

-- how many bytes of the key before its key begins with, the others of its key, and its value
pub record Entry : Type 0 where
  pub shared : ℕ
  pub unshared : List ℕ
  pub value : Option (List ℕ)

-- its key, behind the key before
abbrev pub key_behind : List ℕ → Entry → List ℕ
key_behind before entry = take entry.shared before ++ entry.unshared

abbrev pub row_behind : List ℕ → Entry → BlockRow
row_behind before entry = record { key = key_behind before entry; value = entry.value }

-- so many bytes of a key that has at most 1,024 and begins with others of the one before, which has so many
unfoldable pub unshared_at : ℕ → ℕ → ℕ → List ℕ → Option (List ℕ × List ℕ)
unshared_at before shared len bytes =
    if nat_le shared before then
    (if is_key_length (shared + len) then (if nat_le len (length bytes) then Some (take len bytes, drop len bytes) else None) else None)
    else None

-- the value with this number
unfoldable pub value_at : ℕ → List ℕ → Option (Option (List ℕ) × List ℕ)
value_at zero bytes = Some (None, bytes)
value_at (suc len) bytes = if nat_le len (length bytes) then Some (Some (take len bytes), drop len bytes) else None

-- the entry behind a key of so many bytes, and the bytes behind it
unfoldable pub entry_at : ℕ → List ℕ → Option (Entry × List ℕ)
entry_at before bytes = do
  shared ← varint_split bytes
  len ← varint_split shared.1
  number ← varint_split len.1
  unshared ← unshared_at before shared.0 len.0 number.1
  value ← value_at number.0 unshared.1
  Some (record { shared = shared.0; unshared = unshared.0; value = value.0 }, value.1)

-- the rows of the entries behind a key, at most so many
unfoldable pub rows_behind : ℕ → List ℕ → List ℕ → List BlockRow
rows_behind zero before bytes = []
rows_behind (suc most) before bytes =
    unwrap_or (option_map (λ read. row_behind before read.0 ∷ rows_behind most (key_behind before read.0) read.1)
    (entry_at (length before) bytes)) []

abbrev pub all_behind : List ℕ → List ℕ → List BlockRow
all_behind before bytes = rows_behind (length bytes) before bytes

-- ---- whether entries and restarts are those of a block

-- a place between entries: the number of those before it, where the next begins, the key before it, the restarts that are
-- still to come, and the bytes
pub record Place : Type 0 where
  pub entry : ℕ
  pub at : ℕ
  pub before : List ℕ
  pub restarts : List ℕ
  pub bytes : List ℕ

-- what stands behind a front, where bytes begin with it
abbrev pub stripped : List ℕ → List ℕ → Option (List ℕ)
stripped front bytes = if pointwise nat_eq (take (length front) bytes) front then Some (drop (length front) bytes) else None

-- the restarts behind that of the entry of this number, which begins at this place, where it is one
abbrev pub restarts_behind : ℕ → ℕ → ℕ → List ℕ → Option (List ℕ)
restarts_behind distance entry at restarts = if entry % distance == 0 then stripped (be32 at) restarts else Some restarts

abbrev pub is_short : Option (List ℕ) → Bool
is_short None = true
is_short (Some bytes) = is_value bytes

-- the entry of this number goes on behind a key: its own is above that and shares what it has to, and its value is short
abbrev pub may_follow : ℕ → ℕ → List ℕ → Entry → Bool
may_follow distance number before entry =
    is_lt (key_cmp before (key_behind before entry))
    && (nat_eq entry.shared (shared_at distance number before (key_behind before entry)) && is_short entry.value)

abbrev pub may_stand : ℕ → Place → Entry → Bool
may_stand distance place entry = may_follow distance place.entry place.before entry && is_key (key_behind place.before entry)

abbrev pub place_behind : Place → Entry → List ℕ → List ℕ → Place
place_behind place entry restarts bytes = record {
  entry = place.entry + 1;
  at = place.at + (length place.bytes - length bytes);
  before = key_behind place.before entry;
  restarts = restarts;
  bytes = bytes;
}

-- the place behind the next entry
unfoldable pub next_place : ℕ → Place → Option Place
next_place distance place = do
  restarts ← restarts_behind distance place.entry place.at place.restarts
  read ← entry_at (length place.before) place.bytes
  if may_stand distance place read.0 then Some (place_behind place read.0 restarts read.1) else None

abbrev pub step : ℕ → Place → Option Place
step distance place = if nat_lt place.at 1048576 then next_place distance place else None

abbrev pub is_end : Place → Bool
is_end place = nat_eq (length place.bytes) 0 && nat_eq (length place.restarts) 0

-- in at most so many steps
unfoldable pub checks : ℕ → ℕ → Place → Bool
checks distance zero place = is_end place
checks distance (suc most) place =
    if nat_eq (length place.bytes) 0 then is_end place else unwrap_or (option_map (checks distance most) (step distance place)) false

abbrev pub start_of : List ℕ → List ℕ → Place
start_of entries restarts = record { entry = 0; at = 0; before = []; restarts = restarts; bytes = entries }

-- ---- a block

-- the entries and the restarts, without their number
unfoldable pub parts_at : List ℕ → Option (List ℕ × List ℕ)
parts_at bytes =
    let front = take (length bytes - 4) bytes in
    let size = 4 * number_of (drop (length bytes - 4) bytes) in
    if nat_le 4 (length bytes) && nat_le size (length front) then Some (take (length front - size) front, drop (length front - size) front)
    else None

unfoldable pub block_at : ℕ → List ℕ → Option (List BlockRow)
block_at distance bytes = do
  parts ← parts_at bytes
  if nat_lt 0 (length parts.0) && checks distance (length parts.0) (start_of parts.0 parts.1) then Some (all_behind [] parts.0) else None
