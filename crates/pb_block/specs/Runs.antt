-- Rows that may stand one behind the other, and what a writer of them holds.
use Rattle.std.specs.Prelude.{◌≡◌, ℕ, ◌+◌, ◌<◌, ◌≤◌, List, [], ◌∷◌, length, Option, IfSome}
use Rattle.std.specs.List.{flat_map}
use Rattle.std.specs.declared.cmp.Ordering.TheVariants.{Less}
use Rattle.pb_bytes.specs.BigEndian.{be32}
use Rattle.pb_keys.specs.Key.{IsKey, key_cmp}
use Rattle.pb_keys.specs.Value.{IsValue}
use Rattle.pb_block.specs.Blocks.{BlockRow, shared_at, entry_spelling, entries, restarts}
use Rattle.pb_block.specs.Reading.{all_behind}

-- a row that may stand behind a key, where its entry begins
pub record Stands (at : ℕ) (before : List ℕ) (row : BlockRow) : Type 0 where
  pub room : at < 1048576
  pub key : IsKey row.key
  pub rises : key_cmp before row.key ≡ Less
  pub value : IfSome row.value IsValue

-- rows of which each may stand behind the one before, the first with this number, at this place and behind this key
abbrev pub IsRun : ℕ → ℕ → ℕ → List ℕ → List BlockRow → Type 0
IsRun distance number at before [] = Unit {0}
IsRun distance number at before (row ∷ rows) =
    Stands at before row × IsRun distance (number + 1) (at + length (entry_spelling (shared_at distance number before row.key) row)) row.key
    rows

-- the key of the last row, or the one before them all
abbrev pub last_key : List ℕ → List BlockRow → List ℕ
last_key before [] = before
last_key before (row ∷ rows) = last_key row.key rows

-- the key is above that of the last row, if there is one
abbrev pub IsBehind : List BlockRow → List ℕ → Type 0
IsBehind [] key = Unit {0}
IsBehind (row ∷ rows) key = key_cmp (last_key row.key rows) key ≡ Less

-- a row may be added behind these: there is room, its key is above the last one, and its value is short
pub record MayBeAdded (distance : ℕ) (rows : List BlockRow) (key : List ℕ) (value : Option (List ℕ)) : Type 0 where
  pub room : length (entries distance rows) < 1048576
  pub behind : IsBehind rows key
  pub short : IfSome value IsValue

-- the entries of rows, their restarts, the last key, and how many there are
pub record IsWritten (distance : ℕ) (front others last : List ℕ) (count : ℕ) : Type 0 where
  pub distance_some : 1 ≤ distance
  pub run : IsRun distance 0 0 [] (all_behind [] front)
  pub are_entries : front ≡ entries distance (all_behind [] front)
  pub are_restarts : others ≡ flat_map be32 (restarts distance (all_behind [] front))
  pub is_last : last ≡ last_key [] (all_behind [] front)
  pub is_count : count ≡ length (all_behind [] front)
