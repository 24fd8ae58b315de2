-- Where a cursor stands in a block, and where it may begin to look for a key.
use Rattle.std.specs.Prelude.{◌≡◌, ℕ, ◌≤◌, List, [], ◌∷◌, length, drop, Bool, true, false, Option, Some, None}
use Rattle.pb_block.specs.Blocks.{BlockRow, rows_from}
use Rattle.pb_block.specs.Reading.{all_behind}
use Rattle.pb_block.specs.declared.cursor.Standing.{Standing}
use Rattle.pb_block.specs.declared.cursor.Standing.TheVariants.{Apart, At, Before}

-- the row at which a cursor stands, if it stands at one, and those that are still to come
pub record CursorView : Type 0 where
  pub at : Option BlockRow
  pub left : List BlockRow

-- at a row that was read, before it, or at none, with these behind it
abbrev pub cursor_at : Standing → BlockRow → List BlockRow → CursorView
cursor_at Apart row rows = record { at = None; left = rows }
cursor_at At row rows = record { at = Some row; left = rows }
cursor_at Before row rows = record { at = None; left = row ∷ rows }

abbrev pub is_before_row : Standing → Bool
is_before_row Before = true
is_before_row At = false
is_before_row Apart = false

-- at the next of these rows, if there is one
abbrev pub advanced : List BlockRow → CursorView
advanced [] = record { at = None; left = [] }
advanced (row ∷ rows) = record { at = Some row; left = rows }

-- before these rows
abbrev pub before_rows : List BlockRow → CursorView
before_rows rows = record { at = None; left = rows }

-- who begins to read at this place of entries passes over rows alone that are below the key with these parts
pub record PassesOver (bytes prefix suffix : List ℕ) (place : ℕ) : Type 0 where
  pub within : place ≤ length bytes
  pub same : rows_from (all_behind [] (drop place bytes)) prefix suffix ≡ rows_from (all_behind [] bytes) prefix suffix
