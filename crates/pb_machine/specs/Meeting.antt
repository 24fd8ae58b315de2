-- What the work of a line may meet, and what it may find.
use Rattle.std.specs.Prelude.{ℕ, Bool, true, false, ◌==◌, List, [], ◌∷◌, Option, Some, None}
use Rattle.std.specs.List.{list_any}
use Rattle.pb_reply.specs.Refusals.{refusal_number}
use Rattle.pb_reply.specs.declared.refusal.Refusal.{Refusal}
use Rattle.pb_reply.specs.declared.reply.Reply.{Reply}
use Rattle.pb_reply.specs.declared.reply.Reply.TheVariants as reply
use Rattle.pb_script.specs.declared.command.Command.{Command}
use Rattle.pb_script.specs.declared.command.Command.TheVariants.{Set, Del, DelRange, Get, Scan, Flush, Compact, Release, Ingest, Excise, IngestExcise, External, Lend, Receive, Pin}
use Rattle.pb_script.specs.declared.line.Lane.{Lane}
use Rattle.pb_script.specs.declared.line.Lane.TheVariants.{Fg, Bg}
use Rattle.pb_script.specs.declared.line.Line.{Line}
use Rattle.pb_script.specs.declared.line.Line.TheVariants as line
use Rattle.pb_machine.specs.Family.{FamilyState, Started, in_lane}

-- the numbers of the refusals: damage, a missing object, faults of disk and bucket, want of memory
abbrev pub of_reads : List ℕ
of_reads = 20 ∷ 21 ∷ 22 ∷ 23 ∷ 24 ∷ []

abbrev pub met_by_command : Command → List ℕ
met_by_command (Set key value) = 10 ∷ 11 ∷ 22 ∷ 24 ∷ []
met_by_command (Del key) = 10 ∷ 11 ∷ 22 ∷ 24 ∷ []
met_by_command (DelRange lo hi) = 10 ∷ 11 ∷ 22 ∷ 24 ∷ []
met_by_command (Get key) = of_reads
met_by_command (Scan lo hi) = of_reads
met_by_command Flush = 10 ∷ 11 ∷ 22 ∷ 24 ∷ []
met_by_command (Compact level lo hi) = 10 ∷ 11 ∷ 26 ∷ of_reads
met_by_command Release = 22 ∷ 23 ∷ 24 ∷ []
met_by_command (Ingest tables) = 10 ∷ 11 ∷ 22 ∷ 23 ∷ 24 ∷ []
met_by_command (Excise lo hi) = 10 ∷ 11 ∷ 22 ∷ 24 ∷ []
met_by_command (IngestExcise words) = 10 ∷ 11 ∷ 22 ∷ 23 ∷ 24 ∷ []
met_by_command (External words) = 6 ∷ 10 ∷ 11 ∷ 12 ∷ 13 ∷ 14 ∷ 21 ∷ 22 ∷ 23 ∷ 24 ∷ []
met_by_command (Lend words) = 6 ∷ of_reads
met_by_command (Receive handle) = 10 ∷ 11 ∷ 16 ∷ 22 ∷ 23 ∷ 24 ∷ []
met_by_command (Pin pin) = 24 ∷ []

-- a turn meets what its command may; in lane bg without one it releases an object, or finds none that waits for it
abbrev pub met_by_turn : Lane → Option Started → List ℕ
met_by_turn lane (Some started) = met_by_command started.command
met_by_turn Fg None = []
met_by_turn Bg None = 22 ∷ 23 ∷ 24 ∷ 25 ∷ []

abbrev pub met_by : FamilyState → Line → List ℕ
met_by family (line.Open store) = 19 ∷ of_reads
met_by family (line.Close store) = []
met_by family (line.Stop store) = []
met_by family (line.Turn store lane) = met_by_turn lane (in_lane (family.stores store) lane)
met_by family (line.Levels store) = 24 ∷ []
met_by family (line.Whole store command) = met_by_command command
met_by family (line.Start store command) = 24 ∷ []
met_by family (line.Table table lines) = 24 ∷ []
met_by family (line.Export table name) = 18 ∷ 23 ∷ 24 ∷ []
met_by family (line.DropHandle handle) = []
met_by family (line.GetAt pin key) = of_reads
met_by family (line.Unpin pin) = 22 ∷ []
met_by family line.Objects = 23 ∷ 24 ∷ []
met_by family line.Calls = 24 ∷ []

abbrev pub may_meet : FamilyState → Line → Refusal → Bool
may_meet family line refusal = list_any (λ number. number == refusal_number refusal) (met_by family line)

-- ---- what reading lines find

-- a value, or none
abbrev pub is_look_up : Reply → Bool
is_look_up (reply.Value value) = true
is_look_up reply.Absent = true
is_look_up other = false

abbrev pub is_scan : Reply → Bool
is_scan (reply.Rows pairs) = true
is_scan other = false

abbrev pub is_levels : Reply → Bool
is_levels (reply.Levels tables) = true
is_levels other = false

abbrev pub is_objects : Reply → Bool
is_objects (reply.Objects names) = true
is_objects other = false

abbrev pub is_calls : Reply → Bool
is_calls (reply.Calls calls) = true
is_calls other = false

abbrev pub is_command_answer : Command → Reply → Bool
is_command_answer (Get key) read = is_look_up read
is_command_answer (Scan lo hi) read = is_scan read
is_command_answer command read = true

-- of the other lines nothing is asked
abbrev pub is_answer : Line → Reply → Bool
is_answer (line.Whole store command) read = is_command_answer command read
is_answer (line.Levels store) read = is_levels read
is_answer (line.GetAt pin key) read = is_look_up read
is_answer line.Objects read = is_objects read
is_answer line.Calls read = is_calls read
is_answer line read = true
