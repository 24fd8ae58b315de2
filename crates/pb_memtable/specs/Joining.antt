-- A span put among deletions, and for which command there is room.
use Rattle.std.specs.Prelude.{◌≡◌, ℕ, ◌<◌, ◌≤◌, List, ◌∷◌, ◌++◌, length, take, drop, slice_index_or, true, false}
use Rattle.pb_keys.specs.Order.{is_below}
use Rattle.pb_keys.specs.Span.{KeySpan}
use Rattle.pb_memtable.specs.View.{RoomFor}
use Rattle.pb_memtable.specs.declared.ready.Ready.{Ready}
use Rattle.pb_memtable.specs.declared.ready.Room.{Room}
use Rattle.pb_memtable.specs.declared.ready.Room.TheVariants.{Nothing, Row, Span}
use Rattle.pb_rows.specs.Over.{with_span}

-- the spans overlap, or one ends where the other begins
pub record Touch (s t : KeySpan) : Type 0 where
  pub front : is_below t.hi s.lo ≡ false
  pub back : is_below s.hi t.lo ≡ false

-- the deletions from one place up to another touch the span, those before end below it, and those behind begin above it
pub record IsTouched (span : KeySpan) (dels : List KeySpan) (from to : ℕ) : Type 0 where
  pub rises : from ≤ to
  pub within : to ≤ length dels
  pub front : (k : ℕ) (d : KeySpan) → k < from → is_below (slice_index_or dels k d).hi span.lo ≡ true
  pub middle : (k : ℕ) (d : KeySpan) → from ≤ k → k < to → Touch span (slice_index_or dels k d)
  pub back : (k : ℕ) (d : KeySpan) → to ≤ k → k < length dels → is_below span.hi (slice_index_or dels k d).lo ≡ true

-- among the deletions the span becomes this one, in the place of those from one place up to another
pub record IsReady (ready : Ready) (dels : List KeySpan) : Type 0 where
  pub rises : ready.from ≤ ready.to
  pub within : ready.to ≤ length dels
  pub joined : take ready.from dels ++ ready.joined ∷ drop ready.to dels ≡ with_span ready.span dels

abbrev pub room_of : Room → RoomFor
room_of Nothing = RoomFor.Nothing
room_of Row = RoomFor.ForRow
room_of (Span ready) = RoomFor.ForSpan ready.span

abbrev pub RoomHolds : Room → List KeySpan → Type 0
RoomHolds Nothing dels = Unit {0}
RoomHolds Row dels = Unit {0}
RoomHolds (Span ready) dels = IsReady ready dels
