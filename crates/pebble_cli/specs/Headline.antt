-- No stop and no fault loses an accepted command: the history of a store, against the images of its folder.
use Rattle.std.specs.Prelude.{◌≢◌, ℕ, List, [], ◌∷◌, Option}
use Rattle.std.specs.List.{AllByRecursion}
use Rattle.pb_devices.specs.Contents.{Contents, Folder, IsImage, MayLeave}
use Rattle.pb_keys.specs.Map.{Map}
use Rattle.pb_script.specs.declared.line.Line.{Line}
use Rattle.pb_machine.specs.Family.{FamilyState, start}
use Rattle.pb_machine.specs.Ran.{Ran}
use Rattle.pb_machine.specs.After.{line_after}
use Rattle.pb_machine.specs.Agreement.{IsHeld}
use Rattle.pb_machine.specs.Trail.{FindsHistory, ReadsMap, states_after}
use Rattle.pb_gate_log.specs.Payloads.{payloads_in}
use Rattle.pebble_cli.specs.Folder.{log_name, Replays, StandsFor}
use Rattle.pebble_cli.specs.Lines.{store_a}

-- each image of the folder stands for some count and map
abbrev pub IsGood : Contents → Type 0
IsGood disk = (folder : Folder) → IsImage disk folder → (n : ℕ) × (m : Map) × StandsFor folder n m

-- some image of the folder stands for this count and map
abbrev pub MayStandFor : Contents → ℕ → Map → Type 0
MayStandFor disk n m = (folder : Folder) × IsImage disk folder × StandsFor folder n m

-- the same by a store's number. The one store whose lines are built is A, and the folder is A's
abbrev pub StoodFor : Contents → ℕ → ℕ → Map → Type 0
StoodFor entry store n m = MayStandFor entry n m

-- some image of the log stands for no count and map
abbrev pub HasBadImage : Contents → Type 0
HasBadImage disk = (image : Option (List ℕ)) × MayLeave disk log_name image × ((n : ℕ) (m : Map) → Replays (payloads_in image) n m → ⊥)

-- the lines that read answer what the machine's maps have
abbrev pub EachReads : FamilyState → List Line → List Ran → Type 0
EachReads family lines [] = Unit {0}
EachReads family [] (ran ∷ more) = Unit {0}
EachReads family (line ∷ lines) (ran ∷ more) = ReadsMap family line ran × EachReads (line_after family line ran) lines more

-- it wasn't refused as damaged
abbrev pub IsUndamaged : Ran → Type 0
IsUndamaged ran = ran.mark.refusal ≢ 20

-- for some maps with which the stores begin: each opening found the history, and the first one what some image stood for at entry;
-- each `get` read the map; nothing was found damaged; and each image of the folder stands for the history
pub record Headline (entry exit : Contents) (lines : List Line) (ran : List Ran) : Type 0 where
  pub maps : ℕ → Map
  pub finds : FindsHistory (StoodFor entry) (start maps) lines ran
  pub reads : EachReads (start maps) lines ran
  pub undamaged : AllByRecursion IsUndamaged ran
  pub images : (folder : Folder) → IsImage exit folder
      → (n : ℕ) × (m : Map) × StandsFor folder n m × IsHeld (StoodFor entry) (states_after (start maps) lines ran) store_a n m
