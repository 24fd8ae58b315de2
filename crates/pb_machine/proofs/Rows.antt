-- Lines and what they came to, for worked rows.
use Rattle.std.proofs.Common.{◌≡◌, ℕ, zero, suc, Bool, true, false, List, [], ◌∷◌, codes, map, replicate, Option, Some, None}
use Rattle.pb_devices.specs.declared.trace.Mark.{Mark}
use Rattle.pb_keys.specs.Map.{Map}
use Rattle.pb_marker_world.specs.Machine.{Marker}
use Rattle.pb_rows.specs.Layer.{KeyLayer}
use Rattle.pb_reply.specs.LevelRow.{LevelRow}
use Rattle.pb_reply.specs.Pair.{Pair}
use Rattle.pb_reply.specs.Refusals.{refusal_number}
use Rattle.pb_reply.specs.declared.refusal.Refusal.{Refusal}
use Rattle.pb_reply.specs.declared.reply.Reply.{Reply}
use Rattle.pb_reply.specs.declared.reply.Reply.TheVariants as reply
use Rattle.pb_script.specs.declared.line.Line.{Line}
use Rattle.pb_machine.specs.Family.{FamilyState, History, start}
use Rattle.pb_machine.specs.After.{line_after}
use Rattle.pb_machine.specs.Replies.{reply_to}
use Rattle.pb_machine.specs.Trail.{mark_of, replies, states_after}
use Rattle.pb_machine.specs.Ran.{Ran}

-- no store is Down
abbrev pub marked : ℕ → ℕ → Bool → Mark
marked refusal count more = record { refusal = refusal; count = count; more = more; down = replicate 8 false }

abbrev pub plain : Mark → Ran
plain mark = record { mark = mark; refused = None; read = reply.Absent; layer = None; lent = []; absent = None }

-- a line that tells no count
abbrev pub went : Ran
went = plain (marked 0 0 false)

-- `ok n` or `opened n`
abbrev pub counted : ℕ → Ran
counted count = plain (marked 0 count false)

-- a command that goes on
abbrev pub going : Ran
going = plain (marked 0 0 true)

-- a refusal that the state gives
abbrev pub refused : ℕ → Ran
refused number = plain (marked number 0 false)

-- one that the work met
abbrev pub met : Refusal → Ran
met refusal = record (plain (marked (refusal_number refusal) 0 false)) { refused = Some refusal }

-- the same where it ended store A
abbrev pub fell : Refusal → Ran
fell refusal = record (met refusal) { mark = record (marked (refusal_number refusal) 0 false) { down = true ∷ replicate 7 false } }

-- while store A is Down
abbrev pub below : Ran → Ran
below ran = record ran { mark = record ran.mark { down = true ∷ replicate 7 false } }

-- a reading line found this
abbrev pub found : Reply → Ran
found read = record (plain (marked 0 0 false)) { read = read }

abbrev pub pair : List ℕ → List ℕ → Pair
pair key value = record { key = key; value = value }

abbrev pub level_row : ℕ → ℕ → List ℕ → List ℕ → Bool → ℕ → LevelRow
level_row level number lo hi is_virtual backing =
    record { level = level; number = number; lo = lo; hi = hi; is_virtual = is_virtual; backing = backing }

-- the history of store A behind the lines
abbrev pub history_of_a : (ℕ → Map) → List Line → List Ran → History
history_of_a maps lines ran = ((states_after (start maps) lines ran).stores 1).history

-- the marks that the lines' replies and states give
abbrev pub marks : FamilyState → List Line → List Ran → List Mark
marks family lines [] = []
marks family [] (ran ∷ more) = []
marks family (line ∷ lines) (ran ∷ more) =
    mark_of (reply_to family line ran) (line_after family line ran) ∷ marks (line_after family line ran) lines more

-- the replies of a row, whatever the starting maps are, and that its marks are those which were written
abbrev pub Row : List Line → List Ran → List Reply → Type 0
Row lines ran answers =
    (maps : ℕ → Map) → (replies (start maps) lines ran ≡ answers) × (marks (start maps) lines ran ≡ map (λ (r : Ran). r.mark) ran)
