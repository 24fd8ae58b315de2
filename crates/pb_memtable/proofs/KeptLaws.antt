-- A memtable after one more command.
use Rattle.std.proofs.Common.{◌≡◌, sym, subst}
use Rattle.pb_keys.specs.Span.{KeySpan}
use Rattle.std.specs.Prelude.{List}
use Rattle.pb_memtable.specs.Index.{Fits, FitsWhere}
use Rattle.pb_memtable.specs.Joining.{room_of, RoomHolds}
use Rattle.pb_memtable.specs.View.{room_for}
use Rattle.pb_memtable.specs.declared.memtable.Memtable.TheInside.{Inside}
use Rattle.pb_memtable.specs.declared.ready.Room.{Room}
use Rattle.pb_memtable.specs.declared.ready.Room.TheVariants.{Nothing}
use Rattle.pb_wal.specs.declared.entry.Change.{Change}
use Rattle.pb_wal.specs.declared.entry.Change.TheVariants.{Set, Del, DelRange}

-- room for a command is room for one more
pub fits_for : (a : Inside) (change : Change) → FitsWhere (room_of a.room) a → room_of a.room ≡ room_for change → Fits a
fits_for a (Set key value) fits is = subst (λ room. FitsWhere room a) is fits
fits_for a (Del key) fits is = subst (λ room. FitsWhere room a) is fits
fits_for a (DelRange span) fits is = subst (λ room. FitsWhere room a) is fits

pub nothing_fits : (a : Inside) → a.room ≡ Nothing → FitsWhere (room_of a.room) a
nothing_fits a is = subst (λ (room : Room). FitsWhere (room_of room) a) (sym is) tt

pub nothing_holds : (room : Room) (dels : List KeySpan) → room ≡ Nothing → RoomHolds room dels
nothing_holds room dels is = subst (λ (r : Room). RoomHolds r dels) (sym is) tt
