-- Blocks: rows with rising keys, and the one spelling of them for each distance of restarts.
use Rattle.std.specs.Prelude.{◌≡◌, ℕ, ◌+◌, ◌-◌, ◌<◌, ◌≤◌, ◌%◌, ◌==◌, nat_eq, if◌then◌else◌, List, [], ◌∷◌, ◌++◌, length, drop, Option}
use Rattle.std.specs.Prelude.{Some, None, All, IfSome}
use Rattle.std.specs.List.{common_prefix_len, flat_map}
use Rattle.std.specs.Option.{unwrap_or}
use Rattle.std.specs.declared.cmp.Ordering.TheVariants.{Less}
use Rattle.pb_bytes.specs.BigEndian.{be32}
use Rattle.pb_bytes.specs.Varint.{varint}
use Rattle.pb_keys.specs.Key.{IsKey, key_cmp, is_before}
use Rattle.pb_keys.specs.Value.{IsValue}

-- a key, and its value, or None for a deleted row
pub record BlockRow : Type 0 where
  pub key : List ℕ
  pub value : Option (List ℕ)

-- ---- spelling

-- 0 for a deleted row, else the value's length and 1
abbrev pub value_number : Option (List ℕ) → ℕ
value_number None = 0
value_number (Some bytes) = length bytes + 1

-- with how many bytes of the key before the key of this entry begins: none at a restart, else as many as both begin with
abbrev pub shared_at : ℕ → ℕ → List ℕ → List ℕ → ℕ
shared_at distance entry before key = if entry % distance == 0 then 0 else common_prefix_len nat_eq before key

unfoldable pub entry_spelling : ℕ → BlockRow → List ℕ
entry_spelling shared row =
    varint shared ++ (varint (length row.key - shared)
    ++ (varint (value_number row.value) ++ (drop shared row.key ++ unwrap_or row.value [])))

-- the rows as entries, the first of this number and behind this key
unfoldable pub entries_from : ℕ → ℕ → List ℕ → List BlockRow → List ℕ
entries_from distance entry before [] = []
entries_from distance entry before (row ∷ rows) =
    entry_spelling (shared_at distance entry before row.key) row ++ entries_from distance (entry + 1) row.key rows

abbrev pub entries : ℕ → List BlockRow → List ℕ
entries distance rows = entries_from distance 0 [] rows

-- where the entries begin whose numbers are multiples of the distance; the first entry begins at this place
unfoldable pub restarts_from : ℕ → ℕ → ℕ → List ℕ → List BlockRow → List ℕ
restarts_from distance entry at before [] = []
restarts_from distance entry at before (row ∷ rows) =
    let others = restarts_from distance (entry + 1) (at + length (entry_spelling (shared_at distance entry before row.key) row)) row.key
    rows in
    if entry % distance == 0 then at ∷ others else others

abbrev pub restarts : ℕ → List BlockRow → List ℕ
restarts distance rows = restarts_from distance 0 0 [] rows

-- the entries, where each restart is, and how many there are
abbrev pub block_spelling : ℕ → List BlockRow → List ℕ
block_spelling distance rows = entries distance rows ++ (flat_map be32 (restarts distance rows) ++ be32 (length (restarts distance rows)))

-- ---- which blocks there are

-- each key is above that of the row before
abbrev pub Rise : List BlockRow → Type 0
Rise [] = Unit {0}
Rise (row ∷ []) = Unit {0}
Rise (row ∷ next ∷ rows) = (key_cmp row.key next.key ≡ Less) × Rise (next ∷ rows)

-- all rows but the last
abbrev pub before_last : List BlockRow → List BlockRow
before_last [] = []
before_last (row ∷ []) = []
before_last (row ∷ next ∷ rows) = row ∷ before_last (next ∷ rows)

-- the last entry begins below 1 MiB
abbrev pub HasRoom : ℕ → List BlockRow → Type 0
HasRoom distance rows = length (entries distance (before_last rows)) < 1048576

pub record IsBlock (distance : ℕ) (rows : List BlockRow) : Type 0 where
  pub some : 1 ≤ length rows
  pub keys : All (λ row. IsKey row.key) rows
  pub rise : Rise rows
  pub values : All (λ row. IfSome row.value IsValue) rows
  pub room : HasRoom distance rows

-- ---- looking for a key

-- the rows from the first on whose key isn't below the one with these parts
abbrev pub rows_from : List BlockRow → List ℕ → List ℕ → List BlockRow
rows_from [] prefix suffix = []
rows_from (row ∷ rows) prefix suffix = if is_before prefix suffix row.key then rows_from rows prefix suffix else row ∷ rows
