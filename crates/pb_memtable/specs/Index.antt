-- How a memtable keeps its commands.
use Rattle.std.specs.Prelude.{◌≡◌, ℕ, ◌+◌, ◌<◌, ◌^◌, List, All, vec_len, vec_capacity}
use Rattle.pb_keys.specs.Span.{KeySpan, IsSpan}
use Rattle.pb_memtable.specs.Joining.{room_of, RoomHolds}
use Rattle.pb_memtable.specs.Search.{IsRowPlace, rows_at}
use Rattle.pb_memtable.specs.View.{Commands, RoomFor, all_changing, commands_of, size_of, layer_of_all}
use Rattle.pb_memtable.specs.declared.memtable.Memtable.TheInside.{Inside}
use Rattle.pb_rows.specs.Layer.{AreApart, Rise}
use Rattle.pb_wal.specs.Changes.{HasShortValue}
use Rattle.pb_wal.specs.declared.entry.Change.{Change}

-- the places name the rows, and the spans are the deletions, of the commands' layer
pub record IsIndex (changes : List Change) (numbers : List ℕ) (spans : List KeySpan) : Type 0 where
  pub places : All (IsRowPlace changes) numbers
  pub rows : rows_at changes numbers ≡ (layer_of_all changes).rows
  pub rise : Rise (rows_at changes numbers)
  pub dels : spans ≡ (layer_of_all changes).dels
  pub in_form : All IsSpan spans
  pub apart : AreApart spans
  pub short : All HasShortValue changes

-- one more command takes no memory
pub record Fits (a : Inside) : Type 0 where
  pub changes : vec_len a.changes < vec_capacity a.changes
  pub places : vec_len a.places < vec_capacity a.places
  pub dels : vec_len a.dels < vec_capacity a.dels
  pub size : a.size + 66560 < 2 ^ 64

abbrev pub FitsWhere : RoomFor → Inside → Type 0
FitsWhere RoomFor.Nothing a = Unit {0}
FitsWhere RoomFor.ForRow a = Fits a
FitsWhere (RoomFor.ForSpan span) a = Fits a

pub record IsKept (a : Inside) : Type 0 where
  pub index : IsIndex a.changes.items a.places.items a.dels.items
  pub size : a.size ≡ size_of (all_changing a.changes.items)
  pub room : RoomHolds a.room a.dels.items
  pub fits : FitsWhere (room_of a.room) a

abbrev pub view_of : Inside → Commands
view_of a = commands_of (all_changing a.changes.items) (room_of a.room)
