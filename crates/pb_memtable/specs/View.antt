-- What contracts see of a memtable: its commands, and for which command there is room.
use Rattle.std.specs.Prelude.{◌≡◌, ℕ, ◌+◌, List, [], ◌∷◌, map}
use Rattle.pb_keys.specs.Span.{KeySpan}
use Rattle.pb_rows.specs.Changing.{Changing}
use Rattle.pb_rows.specs.ChangingLayers.{layer_of_changes}
use Rattle.pb_rows.specs.Layer.{KeyLayer}
use Rattle.pb_wal.specs.Changes.{HasShortValue, changing_of, length_of_changing}
use Rattle.pb_wal.specs.declared.entry.Change.{Change}
use Rattle.pb_wal.specs.declared.entry.Change.TheVariants.{Set, Del, DelRange}

-- for no command, for any set or del, or for the delrange of this span
pub data RoomFor : Type 0 where
  Nothing : RoomFor
  ForRow : RoomFor
  ForSpan : (span : KeySpan) → RoomFor

pub record Commands : Type 0 where
  pub changes : List Changing
  pub room : RoomFor

abbrev pub commands_of : List Changing → RoomFor → Commands
commands_of changes room = record { changes = changes; room = room }

-- what commands do to a map
abbrev pub all_changing : List Change → List Changing
all_changing changes = map changing_of changes

-- the layer that does the same
abbrev pub layer_of_all : List Change → KeyLayer
layer_of_all changes = layer_of_changes (all_changing changes)

-- the lengths of all commands, also of those that later ones overwrote or covered
abbrev pub size_of : List Changing → ℕ
size_of [] = 0
size_of (change ∷ changes) = length_of_changing change + size_of changes

abbrev pub room_for : Change → RoomFor
room_for (Set key value) = ForRow
room_for (Del key) = ForRow
room_for (DelRange span) = ForSpan span

-- room was reserved for this command
pub record IsReserved (spare : RoomFor) (change : Change) : Type 0 where
  pub room : spare ≡ room_for change
  pub short : HasShortValue change
