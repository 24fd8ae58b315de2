-- What a look-up of a place finds.
use Rattle.std.specs.Prelude.{◌≡◌, ℕ, Bool, true, false, Option, Some, None, List, slice_get, slice_set}
use Rattle.pb_marker_world.specs.declared.records.Place.{Place}
use Rattle.pb_marker_world.specs.declared.scans.Found.{Found}
use Rattle.pb_marker_world.specs.declared.stages.Stage.{Stage}
use Rattle.pb_marker_world.specs.declared.stages.Stage.TheVariants.{Intended, Put, Marked, Held}
use Rattle.pb_marker_world.specs.Machine.{Marker, Entry, Lending}
use Rattle.pb_marker_world.specs.Steps.{dropped}
use Rattle.pb_marker_world.specs.Book.{entry_in}

-- the place is there, and the store has this entry under the number
pub record IsFoundAt (places : List Place) (at : ℕ) (f : Found) : Type 0 where
  pub place : Place
  pub there : slice_get places at ≡ Some place
  pub store : place.store ≡ f.store
  pub number : place.number ≡ f.number
  pub stands : entry_in places f.store f.number ≡ Some f.entry

-- what an entry at this stage and with this lender becomes as its marker is put
abbrev pub marked_from : Stage → Option Marker → Option Stage
marked_from Put lender = Some Held
marked_from Intended (Some m) = Some Marked
marked_from Intended None = None
marked_from _ lender = None

abbrev pub stage_marked : Entry → Option Stage
stage_marked e = marked_from e.stage e.lender

-- the handle was open, and is dropped
pub record WasClosed (old : List Lending) (h : ℕ) (new : List Lending) : Type 0 where
  pub given : Lending
  pub there : slice_get old h ≡ Some given
  pub was_open : given.is_open ≡ true
  pub left : new ≡ slice_set old h (dropped given)

-- it wasn't there or wasn't open, and nothing has changed
pub record IsNotOpen (old : List Lending) (h : ℕ) (new : List Lending) : Type 0 where
  pub left : new ≡ old
  pub shut : (g : Lending) → slice_get old h ≡ Some g → g.is_open ≡ false

abbrev pub IsClosed : List Lending → ℕ → Bool → List Lending → Type 0
IsClosed old h true new = WasClosed old h new
IsClosed old h false new = IsNotOpen old h new
