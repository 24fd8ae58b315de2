-- One call of a bucket, what it leaves, and the step that it is.
use Rattle.std.specs.Prelude.{◌≡◌, ℕ, ◌⊎◌, List, Result, Ok, Err}
use Rattle.std.specs.FinMap.{get, insert, remove}
use Rattle.pb_devices.specs.Objects.{Objects}
use Rattle.pb_marker_world.specs.Machine.{Entry, Local}
use Rattle.pb_marker_world.specs.Steps.{Step, Happens, moved}
use Rattle.pb_marker_world.specs.Bucket.{shown_names}

pub data Call : Type 0 where
  PutsBytes : List ℕ → List ℕ → Call
  LooksFor : List ℕ → Call
  CountsWith : List ℕ → Call
  DeletesName : List ℕ → Call

-- the name, or the prefix of names, that it is about
abbrev pub name_called : Call → List ℕ
name_called (PutsBytes name bytes) = name
name_called (LooksFor name) = name
name_called (CountsWith prefix) = prefix
name_called (DeletesName name) = name

-- the objects after it
abbrev pub objects_after : Call → Objects → Objects
objects_after (PutsBytes name bytes) objects = insert objects name bytes
objects_after (LooksFor name) objects = objects
objects_after (CountsWith prefix) objects = objects
objects_after (DeletesName name) objects = remove objects name

-- the call is made; where it failed, it is or nothing has changed
abbrev pub IsMade : {T E : Type 0} → Call → Objects → Objects → Result T E → Type 0
IsMade call before after (Ok answer) = after ≡ objects_after call before
IsMade call before after (Err error) = (after ≡ objects_after call before) ⊎ (after ≡ before)

-- each name but the one of the call has the bytes that it had
abbrev pub StaysElsewhere : Call → Objects → Objects → Type 0
StaysElsewhere call before after = (name : List ℕ) → (name ≡ name_called call → ⊥) → get after name ≡ get before name

-- the store makes the step, by which its entry under the number becomes this one, and sees what these objects show
abbrev pub StepsTo : ℕ → Local → ℕ → Step → Entry → Objects → Type 0
StepsTo store l number step entry objects = Happens store l step (moved l number entry (shown_names objects))

-- the step is made; where the call failed, it is or nothing that is shown has changed
abbrev pub IsStep : {T E : Type 0} → ℕ → Local → ℕ → Step → Entry → Objects → Objects → Result T E → Type 0
IsStep store l number step entry before after (Ok answer) = StepsTo store l number step entry after
IsStep store l number step entry before after (Err error) =
    StepsTo store l number step entry after ⊎ (shown_names after ≡ shown_names before)
