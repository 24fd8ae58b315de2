-- How a store takes a lent object: its own marker is put, then the lender's is looked for.
use Rattle.std.specs.Prelude.{◌≡◌, ℕ, Bool, true, false, List, [], Option, Some, None, if◌then◌else◌}
use Rattle.std.specs.FinMap.{contains_key}
use Rattle.pb_devices.specs.Objects.{Objects}
use Rattle.pb_names.specs.Spelling.{marker_prefix}
use Rattle.pb_marker_world.specs.declared.stages.Stage.{Stage}
use Rattle.pb_marker_world.specs.declared.stages.Stage.TheVariants.{Intended, Marked, Held, Loose}
use Rattle.pb_marker_world.specs.Machine.{Marker, Entry, Local, own_marker}
use Rattle.pb_marker_world.specs.Steps.{Step, IsAt, at_stage, settled}
use Rattle.pb_marker_world.specs.Steps.Step.{PutsMarker, Checks}
use Rattle.pb_marker_world.specs.Bucket.{IsMarker, name_of, shown_names}
use Rattle.pb_markers.specs.declared.attach.Attach.{Attach}
use Rattle.pb_markers.specs.declared.phase.Phase.{Phase}
use Rattle.pb_markers.specs.declared.phase.Phase.TheVariants as phase
use Rattle.pb_markers.specs.Call.{Call}
use Rattle.pb_markers.specs.Call.Call.{PutsBytes, LooksFor}
use Rattle.pb_markers.specs.Creating.{HasNamesOf}

-- at these stages the machine has a call to make
abbrev pub is_attaching : Stage → Bool
is_attaching Intended = true
is_attaching Marked = true
is_attaching stage = false

-- the call at the stage
abbrev pub attach_call_at : Stage → List ℕ → List ℕ → Call
attach_call_at Intended own lender = PutsBytes own []
attach_call_at stage own lender = LooksFor lender

abbrev pub attach_call : Attach → Call
attach_call a = attach_call_at a.stage a.own a.lender

-- what it answers, by whether the lender's marker is there
abbrev pub attach_phase : Stage → Bool → Phase
attach_phase Intended there = phase.More
attach_phase stage there = if there then phase.Held else phase.Gone

-- the stage after it
abbrev pub stage_attached : Stage → Bool → Stage
stage_attached Intended there = Marked
stage_attached stage there = if there then Held else Loose

-- the stage after an answer, none where it is no answer of the stage
abbrev pub attach_leaves : Stage → Phase → Option Stage
attach_leaves Intended phase.More = Some Marked
attach_leaves Marked phase.Held = Some Held
attach_leaves Marked phase.Gone = Some Loose
attach_leaves stage answer = None

-- the step of the entry under the number
abbrev pub attach_step : Stage → ℕ → Step
attach_step Intended number = PutsMarker number
attach_step stage number = Checks number

-- the entry after it: a check leaves no lender
abbrev pub entry_attached : Stage → Bool → Entry → Entry
entry_attached Intended there e = at_stage e Marked
entry_attached stage there e = settled e (if there then Held else Loose)

-- the lender's marker is there
abbrev pub has_lender_in : Objects → Attach → Bool
has_lender_in objects a = contains_key objects a.lender

-- the entry waits for a marker in form of its object, and this is its name
pub record AwaitsNamed (e : Entry) (name : List ℕ) : Type 0 where
  pub lender : Marker
  pub lent : e.lender ≡ Some lender
  pub form : IsMarker lender
  pub same : lender.object ≡ e.object
  pub spelled : name ≡ name_of lender

-- the machine plays the entry that the store has under the number, and the store sees what these objects show
pub record Attaches (a : Attach) (store : ℕ) (l : Local) (number : ℕ) (e : Entry) (objects : Objects) : Type 0 where
  pub names : HasNamesOf (own_marker store number e) a.object a.own
  pub prefix_spelled : a.prefix ≡ marker_prefix e.object
  pub shown : l.names ≡ shown_names objects
  pub at : IsAt l number e a.stage
  pub awaits : AwaitsNamed e a.lender
