-- When a world is sound, and what besides keeps it so.
use Rattle.std.specs.Prelude.{◌≡◌, ℕ, ◌≤◌, Bool, true, false, ◌⊎◌, Some, None, slice_get}
use Rattle.pb_names.specs.Identity.{Identity}
use Rattle.pb_marker_world.specs.declared.stages.Stage.{Stage}
use Rattle.pb_marker_world.specs.declared.stages.Stage.TheVariants.{Intended, Put, Marked, Held, Loose, Counted, Ended}
use Rattle.pb_marker_world.specs.Machine.{Marker, Entry, Lending, World, entry_at, identity, own_marker}
use Rattle.pb_marker_world.specs.Steps.{IsOffered}

-- Marked or Held
abbrev pub shows_marker : Stage → Bool
shows_marker Marked = true
shows_marker Held = true
shows_marker _ = false

-- Marked, Held or Loose
abbrev pub may_show_marker : Stage → Bool
may_show_marker Marked = true
may_show_marker Held = true
may_show_marker Loose = true
may_show_marker _ = false

-- Intended, Put or Marked
abbrev pub is_on_its_way : Stage → Bool
is_on_its_way Intended = true
is_on_its_way Put = true
is_on_its_way Marked = true
is_on_its_way _ = false

-- Intended or Put
abbrev pub is_beginning : Stage → Bool
is_beginning Intended = true
is_beginning Put = true
is_beginning _ = false

-- Held or Loose
abbrev pub is_settled_stage : Stage → Bool
is_settled_stage Held = true
is_settled_stage Loose = true
is_settled_stage _ = false

abbrev pub is_put : Stage → Bool
is_put Put = true
is_put _ = false

-- neither Intended nor Ended
abbrev pub answers_for_object : Stage → Bool
answers_for_object Intended = false
answers_for_object Ended = false
answers_for_object _ = true

-- an entry of the object is Counted, so the object may be deleted at any time
pub record IsDoomed (w : World) (o : Identity) : Type 0 where
  pub store : ℕ
  pub number : ℕ
  pub entry : Entry
  pub stands : entry_at w store number ≡ Some entry
  pub same : entry.object ≡ o
  pub counted : entry.stage ≡ Counted

-- it is the lender's marker of an entry
pub record IsAwaited (w : World) (m : Marker) : Type 0 where
  pub store : ℕ
  pub number : ℕ
  pub entry : Entry
  pub stands : entry_at w store number ≡ Some entry
  pub lent : entry.lender ≡ Some m

-- a handle, open or dropped, lends the marker, or an entry awaits its check
abbrev pub IsLent : World → Marker → Type 0
IsLent w m = IsOffered w.lendings m ⊎ IsAwaited w m

pub record IsLentSafely (w : World) (m : Marker) : Type 0 where
  pub number : (w.parts m.store).used m.number ≡ true
  pub object_number : (w.parts m.object.creator).used m.object.number ≡ true
  pub arrived : (e : Entry) → entry_at w m.store m.number ≡ Some e → e.object ≡ m.object → is_on_its_way e.stage ≡ false
  pub stands : w.names.markers m ≡ true → w.names.objects m.object ≡ true
  pub safe : w.names.markers m ≡ true → IsDoomed w m.object → ⊥

-- the store has a Held entry with this marker
pub record HoldsUnder (w : World) (store : ℕ) (m : Marker) : Type 0 where
  pub entry : Entry
  pub stands : entry_at w store m.number ≡ Some entry
  pub held : entry.stage ≡ Held
  pub own : m ≡ own_marker store m.number entry

-- an entry of its store may show the marker
pub record IsAccounted (w : World) (m : Marker) : Type 0 where
  pub entry : Entry
  pub stands : entry_at w m.store m.number ≡ Some entry
  pub same : entry.object ≡ m.object
  pub shows : may_show_marker entry.stage ≡ true

-- an entry answers for the object
pub record IsAnswered (w : World) (o : Identity) : Type 0 where
  pub store : ℕ
  pub number : ℕ
  pub entry : Entry
  pub stands : entry_at w store number ≡ Some entry
  pub same : entry.object ≡ o
  pub answers : answers_for_object entry.stage ≡ true

-- the object is there, and nobody is about to delete it
pub record IsKept (w : World) (o : Identity) : Type 0 where
  pub present : w.names.objects o ≡ true
  pub spared : IsDoomed w o → ⊥

-- the entry makes its own object, which nobody else knows of yet
pub record IsFresh (w : World) (s n : ℕ) (e : Entry) : Type 0 where
  pub unmarked : (m : Marker) → m.object ≡ e.object → w.names.markers m ≡ false
  pub alone : (t k : ℕ) (f : Entry) → entry_at w t k ≡ Some f → f.object ≡ e.object → (t ≡ s) × (k ≡ n)
  pub unlent : (m : Marker) → IsOffered w.lendings m → m.object ≡ e.object → ⊥
  pub present : w.names.objects e.object ≡ is_put e.stage

-- the store has used the entry's number, and the creator that of the object
pub record UsesNumbers (w : World) (s n : ℕ) (e : Entry) : Type 0 where
  pub own : (w.parts s).used n ≡ true
  pub object : (w.parts e.object.creator).used e.object.number ≡ true

-- ---- the rules

abbrev pub OwnMarkersStand : World → Type 0
OwnMarkersStand w =
    (s n : ℕ) (e : Entry) → entry_at w s n ≡ Some e → shows_marker e.stage ≡ true → w.names.markers (own_marker s n e) ≡ true

abbrev pub HeldObjectsStand : World → Type 0
HeldObjectsStand w = (s n : ℕ) (e : Entry) → entry_at w s n ≡ Some e → e.stage ≡ Held → IsKept w e.object

abbrev pub LentMarkersAreSafe : World → Type 0
LentMarkersAreSafe w = (m : Marker) → IsLent w m → IsLentSafely w m

abbrev pub OpenHandlesLendHeld : World → Type 0
OpenHandlesLendHeld w =
    (h : ℕ) (g : Lending) (k : ℕ) (m : Marker) → slice_get w.lendings h ≡ Some g → g.is_open ≡ true
    → g.opening ≡ (w.parts g.store).opening → slice_get g.markers k ≡ Some m → HoldsUnder w g.store m

abbrev pub MarkersAreAccounted : World → Type 0
MarkersAreAccounted w = (m : Marker) → w.names.markers m ≡ true → IsAccounted w m

abbrev pub ObjectsAreAnswered : World → Type 0
ObjectsAreAnswered w = (o : Identity) → w.names.objects o ≡ true → IsAnswered w o

abbrev pub EntriesUseNumbers : World → Type 0
EntriesUseNumbers w = (s n : ℕ) (e : Entry) → entry_at w s n ≡ Some e → UsesNumbers w s n e

abbrev pub BeginningsAreFresh : World → Type 0
BeginningsAreFresh w =
    (s n : ℕ) (e : Entry) → entry_at w s n ≡ Some e → e.object ≡ identity s n → is_beginning e.stage ≡ true → IsFresh w s n e

pub record IsSound (w : World) : Type 0 where
  -- the own marker of a Marked or Held entry is present
  pub S1 : OwnMarkersStand w
  -- the object of a Held entry is present and isn't doomed
  pub S2 : HeldObjectsStand w
  -- a marker that is lent has used numbers and belongs to no entry on its way; while it is present, its object is, and isn't doomed
  pub S3 : LentMarkersAreSafe w
  -- each entry that an open handle of its store's present opening lends is Held
  pub S4 : OpenHandlesLendHeld w
  -- each marker present belongs to an entry that is Marked, Held or Loose
  pub S5 : MarkersAreAccounted w
  -- each object present has an entry that is neither Intended nor Ended
  pub S6 : ObjectsAreAnswered w
  -- all numbers in entries, objects and markers are used by their store
  pub S7_entries : EntriesUseNumbers w
  pub S7_objects : (o : Identity) → w.names.objects o ≡ true → (w.parts o.creator).used o.number ≡ true
  pub S7_markers : (m : Marker) → w.names.markers m ≡ true
      → ((w.parts m.store).used m.number ≡ true) × ((w.parts m.object.creator).used m.object.number ≡ true)
  -- an object whose creating entry is Intended or Put has no marker, no other entry and no handle, and is present exactly in Put
  pub S8 : BeginningsAreFresh w

abbrev pub IntendedMakeTheirOwn : World → Type 0
IntendedMakeTheirOwn w =
    (s n : ℕ) (e : Entry) → entry_at w s n ≡ Some e → e.stage ≡ Intended → e.lender ≡ None → e.object ≡ identity s n

-- the entry's object is its own, and it has no lender
pub record IsOwn (s n : ℕ) (e : Entry) : Type 0 where
  pub object : e.object ≡ identity s n
  pub no_lender : e.lender ≡ None

abbrev pub PutAreTheirOwn : World → Type 0
PutAreTheirOwn w = (s n : ℕ) (e : Entry) → entry_at w s n ≡ Some e → e.stage ≡ Put → IsOwn s n e

abbrev pub LendersAreOfTheObject : World → Type 0
LendersAreOfTheObject w =
    (s n : ℕ) (e : Entry) (m : Marker) → entry_at w s n ≡ Some e → e.lender ≡ Some m → m.object ≡ e.object

abbrev pub HandlesAreOfThePast : World → Type 0
HandlesAreOfThePast w = (h : ℕ) (g : Lending) → slice_get w.lendings h ≡ Some g → g.opening ≤ (w.parts g.store).opening

-- a sound world that every step keeps so
pub record IsSteady (w : World) : Type 0 where
  pub sound : IsSound w
  -- an Intended entry without a lender makes its own object
  pub makes_own : IntendedMakeTheirOwn w
  -- a Put entry makes its own object, and has no lender
  pub put_own : PutAreTheirOwn w
  -- the lender's marker is one of the entry's object
  pub same_object : LendersAreOfTheObject w
  -- no handle is from an opening that hasn't come yet
  pub past : HandlesAreOfThePast w

-- ---- worlds between two runs

-- Held or Loose, and with no lender
pub record IsSettled (e : Entry) : Type 0 where
  pub stage : is_settled_stage e.stage ≡ true
  pub no_lender : e.lender ≡ None

abbrev pub AllSettled : World → Type 0
AllSettled w = (s n : ℕ) (e : Entry) → entry_at w s n ≡ Some e → IsSettled e

-- each store has this opening number
abbrev pub with_openings : World → (ℕ → ℕ) → World
with_openings w openings =
    record {
      parts = λ s. record { opening = openings s; used = (w.parts s).used; entries = (w.parts s).entries };
      names = w.names;
      lendings = w.lendings;
    }
