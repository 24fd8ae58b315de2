-- Rows by their places among the commands, in the order of their keys.
use Rattle.std.specs.Prelude.{◌≡◌, ℕ, ◌<◌, ◌≤◌, List, [], length, map, slice_index_or, true, false, Some, None}
use Rattle.std.specs.Ordering.{is_lt}
use Rattle.std.specs.List.Sorted.{IsPartitionPoint}
use Rattle.pb_keys.specs.Key.{key_cmp}
use Rattle.pb_keys.specs.Order.{is_below}
use Rattle.pb_keys.specs.Span.{KeySpan, IsSpan}
use Rattle.pb_rows.specs.ChangingLayers.{row_of}
use Rattle.pb_rows.specs.Layer.{KeyRow}
use Rattle.pb_wal.specs.declared.entry.Change.{Change}
use Rattle.pb_wal.specs.declared.entry.Change.TheVariants.{Set, Del, DelRange}

-- the row of a set or of a del; one without a key for a delrange
abbrev pub row_of_change : Change → KeyRow
row_of_change (Set key value) = row_of key (Some value)
row_of_change (Del key) = row_of key None
row_of_change (DelRange span) = row_of [] None

-- a del stands at places where there is no command
abbrev pub change_at : List Change → ℕ → Change
change_at changes place = slice_index_or changes place (Del [])

abbrev pub rows_at : List Change → List ℕ → List KeyRow
rows_at changes places = map (λ place. row_of_change (change_at changes place)) places

abbrev pub IsRow : Change → Type 0
IsRow (Set key value) = Unit {0}
IsRow (Del key) = Unit {0}
IsRow (DelRange span) = ⊥

-- a set or a del stands at the place
pub record IsRowPlace (changes : List Change) (place : ℕ) : Type 0 where
  pub within : place < length changes
  pub row : IsRow (change_at changes place)

-- the rows before the place are below the key, and the others aren't
pub record IsPlaceOf (key : List ℕ) (rows : List KeyRow) (at : ℕ) : Type 0 where
  pub within : at ≤ length rows
  pub parted : IsPartitionPoint (λ row. is_lt (key_cmp row.key key) ≡ true) (λ row. is_lt (key_cmp row.key key) ≡ false) rows at

-- the rows from one place up to another are those between the ends of a span
pub record AreWithin (span : KeySpan) (rows : List KeyRow) (from to : ℕ) : Type 0 where
  pub in_form : IsSpan span
  pub starts : IsPlaceOf span.lo rows from
  pub ends : IsPlaceOf span.hi rows to
  pub rises : from ≤ to

-- the deletions before the one place end before the span, and those from the other on begin behind it
pub record AreOverlapped (span : KeySpan) (dels : List KeySpan) (from to : ℕ) : Type 0 where
  pub rises : from ≤ to
  pub within : to ≤ length dels
  pub front : (k : ℕ) (d : KeySpan) → k < from → is_below span.lo (slice_index_or dels k d).hi ≡ false
  pub back : (k : ℕ) (d : KeySpan) → to ≤ k → k < length dels → is_below (slice_index_or dels k d).lo span.hi ≡ false
