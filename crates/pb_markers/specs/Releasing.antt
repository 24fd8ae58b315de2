-- How a store lets an object go: its marker is deleted, the object's markers are counted, and where none is left the object goes.
use Rattle.std.specs.Prelude.{◌≡◌, ℕ, ◌==◌, ◌⊎◌, Bool, true, false, List, Option, Some, None, if◌then◌else◌}
use Rattle.std.specs.List.{list_any}
use Rattle.pb_devices.specs.Objects.{Objects, count_with}
use Rattle.pb_names.specs.Spelling.{marker_prefix}
use Rattle.pb_marker_world.specs.declared.stages.Stage.{Stage}
use Rattle.pb_marker_world.specs.declared.stages.Stage.TheVariants.{Held, Loose, Bare, Counted, Ended}
use Rattle.pb_marker_world.specs.Machine.{Marker, Entry, Local, own_marker}
use Rattle.pb_marker_world.specs.Steps.{Step, IsAt, at_stage, protects}
use Rattle.pb_marker_world.specs.Steps.Step.{DeletesMarker, Counts, DeletesObject}
use Rattle.pb_marker_world.specs.Bucket.{shown_names, NamesInForm}
use Rattle.pb_markers.specs.declared.release.Release.{Release}
use Rattle.pb_markers.specs.declared.phase.Phase.{Phase}
use Rattle.pb_markers.specs.declared.phase.Phase.TheVariants as phase
use Rattle.pb_markers.specs.Call.{Call}
use Rattle.pb_markers.specs.Call.Call.{CountsWith, DeletesName}
use Rattle.pb_markers.specs.Creating.{HasNamesOf}

-- at these stages the machine has a call to make
abbrev pub is_releasing : Stage → Bool
is_releasing Loose = true
is_releasing Bare = true
is_releasing Counted = true
is_releasing stage = false

-- the call at the stage
abbrev pub release_call_at : Stage → List ℕ → List ℕ → List ℕ → Call
release_call_at Loose prefix object own = DeletesName own
release_call_at Bare prefix object own = CountsWith prefix
release_call_at stage prefix object own = DeletesName object

abbrev pub release_call : Release → Call
release_call r = release_call_at r.stage r.prefix r.object r.own

-- what it answers, by how many names begin with the prefix
abbrev pub release_phase : Stage → ℕ → Phase
release_phase Loose count = phase.More
release_phase Bare count = if count == 0 then phase.More else phase.Left
release_phase stage count = phase.Freed

-- the stage after it
abbrev pub stage_released : Stage → ℕ → Stage
stage_released Loose count = Bare
stage_released Bare count = if count == 0 then Counted else Ended
stage_released stage count = Ended

-- the stage after an answer, none where it is no answer of the stage
abbrev pub release_leaves : Stage → Phase → Option Stage
release_leaves Loose phase.More = Some Bare
release_leaves Bare phase.More = Some Counted
release_leaves Bare phase.Left = Some Ended
release_leaves Counted phase.Freed = Some Ended
release_leaves stage answer = None

-- the step of the entry under the number
abbrev pub release_step : Stage → ℕ → Step
release_step Loose number = DeletesMarker number
release_step Bare number = Counts number
release_step stage number = DeletesObject number

-- the entry after it
abbrev pub entry_released : Stage → ℕ → Entry → Entry
entry_released stage count e = at_stage e (stage_released stage count)

-- how many names begin with the prefix
abbrev pub count_in : Objects → Release → ℕ
count_in objects r = count_with r.prefix objects

-- an entry that is let go is Held or Loose at first, and the machine doesn't tell these apart
abbrev pub StandsAt : Stage → Local → ℕ → Entry → Type 0
StandsAt Loose l number e = IsAt l number e Held ⊎ IsAt l number e Loose
StandsAt stage l number e = IsAt l number e stage

-- what a step needs besides: at the deletion of the marker that no open handle of this opening lends it, and at a count that
-- isn't 0 that the names are in form
abbrev pub MayRelease : Stage → ℕ → Local → Marker → ℕ → Objects → Type 0
MayRelease Loose store l m count objects = list_any (protects store l.part.opening m) l.lendings ≡ false
MayRelease Bare store l m count objects = (count ≡ 0 → ⊥) → NamesInForm objects
MayRelease stage store l m count objects = Unit {0}

-- the machine plays the entry that the store has under the number, and the store sees what these objects show
pub record Releases (r : Release) (store : ℕ) (l : Local) (number : ℕ) (e : Entry) (objects : Objects) : Type 0 where
  pub names : HasNamesOf (own_marker store number e) r.object r.own
  pub prefix_spelled : r.prefix ≡ marker_prefix e.object
  pub shown : l.names ≡ shown_names objects
  pub at : StandsAt r.stage l number e
  pub may : MayRelease r.stage store l (own_marker store number e) (count_in objects r) objects
