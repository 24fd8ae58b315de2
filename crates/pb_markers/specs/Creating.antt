-- How a store makes an object of its own: the object is put, then the store's marker.
use Rattle.std.specs.Prelude.{◌≡◌, ℕ, List, [], None}
use Rattle.pb_devices.specs.Objects.{Objects}
use Rattle.pb_names.specs.Spelling.{object_name}
use Rattle.pb_marker_world.specs.declared.stages.Stage.{Stage}
use Rattle.pb_marker_world.specs.declared.stages.Stage.TheVariants.{Intended, Put, Held}
use Rattle.pb_marker_world.specs.Machine.{Marker, Entry, Local, own_marker}
use Rattle.pb_marker_world.specs.Steps.{Step, IsAt, at_stage}
use Rattle.pb_marker_world.specs.Steps.Step.{PutsObject, PutsMarker}
use Rattle.pb_marker_world.specs.Bucket.{IsMarker, name_of, shown_names}
use Rattle.pb_markers.specs.declared.create.Create.{Create}
use Rattle.pb_markers.specs.declared.phase.Phase.{Phase}
use Rattle.pb_markers.specs.declared.phase.Phase.TheVariants as phase
use Rattle.pb_markers.specs.Call.{Call}
use Rattle.pb_markers.specs.Call.Call.{PutsBytes}

-- the call at the stage
abbrev pub create_call_at : Stage → List ℕ → List ℕ → List ℕ → Call
create_call_at Intended object own bytes = PutsBytes object bytes
create_call_at stage object own bytes = PutsBytes own []

abbrev pub create_call : Create → List ℕ → Call
create_call c bytes = create_call_at c.stage c.object c.own bytes

-- what it answers
abbrev pub create_phase : Stage → Phase
create_phase Intended = phase.More
create_phase stage = phase.Held

-- the stage after it
abbrev pub stage_created : Stage → Stage
stage_created Intended = Put
stage_created stage = Held

-- the step of the entry under the number
abbrev pub create_step : Stage → ℕ → Step
create_step Intended number = PutsObject number
create_step stage number = PutsMarker number

-- the entry after it
abbrev pub entry_created : Stage → Entry → Entry
entry_created stage e = at_stage e (stage_created stage)

-- the names are those of the marker and of its object, and the marker is in form
pub record HasNamesOf (m : Marker) (object own : List ℕ) : Type 0 where
  pub form : IsMarker m
  pub object_spelled : object ≡ object_name m.object
  pub own_spelled : own ≡ name_of m

-- the machine plays the entry that the store has under the number, and the store sees what these objects show
pub record Creates (c : Create) (store : ℕ) (l : Local) (number : ℕ) (e : Entry) (objects : Objects) : Type 0 where
  pub names : HasNamesOf (own_marker store number e) c.object c.own
  pub shown : l.names ≡ shown_names objects
  pub at : IsAt l number e c.stage
  pub no_lender : e.lender ≡ None
