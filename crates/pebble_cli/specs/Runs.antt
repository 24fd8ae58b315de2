-- What a run comes to: its task, its status, and what it prints.
use Rattle.std.specs.Prelude.{◌≡◌, ℕ, ◌≤◌, Bool, ◌==◌, ◌||◌, nat_lt, if◌then◌else◌, ◌⊎◌, List, [], ◌∷◌, ◌++◌, length, take, map, Option, Some, None, flat_map, fold}
use Rattle.std.specs.FinMap.{empty}
use Rattle.std.specs.List.{AllByRecursion, list_any}
use Rattle.pb_devices.specs.Counts.{Rose}
use Rattle.pb_devices.specs.declared.trace.Mark.{Mark}
use Rattle.pebble_cli.specs.Usage.{is_run}
use Rattle.pb_keys.specs.Map.{Map}
use Rattle.pb_script.specs.declared.line.Line.{Line}
use Rattle.pb_reply.specs.Printed.{printed}
use Rattle.pb_reply.specs.Statuses.{first_status}
use Rattle.pb_reply.specs.declared.refusal.Refusal.TheVariants.{Damaged as DamagedFile}
use Rattle.pb_reply.specs.declared.status.Status.{Status}
use Rattle.pb_reply.specs.declared.status.Status.TheVariants.{Success, Refused, Usage, Script, Read, Write, Device, Memory, Damaged, TooLong}
use Rattle.pb_machine.specs.Family.{FamilyState, start}
use Rattle.pb_machine.specs.Ran.{Ran}
use Rattle.pb_machine.specs.Trail.{AreRan, replies}
use Rattle.pebble_cli.specs.Folder.{log_name}
use Rattle.pebble_cli.specs.Lines.{fault_line, lines_of_script}
use Rattle.pebble_cli.specs.Texts.{usage_text, too_long_text, fault_text}

-- the longest script, in bytes: 16 MiB
abbrev pub max_script : ℕ
max_script = 16777216

-- what words and a script ask for
pub data Task : Type 0 where
  usage : Task
  too_long : Task
  fault : ℕ → Task
  script : List Line → Task

abbrev pub task_of_script : List ℕ → Option ℕ → Task
task_of_script bytes None = script (lines_of_script bytes)
task_of_script bytes (Some number) = fault number

-- in this order: the length of the script, its first line that is off the grammar or not built
abbrev pub task_of_source : List ℕ → Task
task_of_source bytes = if nat_lt max_script (length bytes) then too_long else task_of_script bytes (fault_line bytes)

-- the words come first
abbrev pub task_of : List (List ℕ) → List ℕ → Task
task_of words bytes = if is_run words then task_of_source bytes else usage

abbrev pub lines_of_task : Task → List Line
lines_of_task (script lines) = lines
lines_of_task task = []

-- the maps with which the stores begin are asked by no reply: pb_machine's `replies_ask_no_map`
abbrev pub blank : FamilyState
blank = start (λ store. empty)

-- the text that a task calls for, where its lines came to this
abbrev pub text_of : Task → List Ran → List ℕ
text_of usage ran = usage_text
text_of too_long ran = too_long_text
text_of (fault number) ran = fault_text number
text_of (script lines) ran = flat_map printed (replies blank lines ran)

-- every line ran, and every reply was printed
abbrev pub IsWhole : Status → Type 0
IsWhole Success = Unit {0}
IsWhole Refused = Unit {0}
IsWhole Device = Unit {0}
IsWhole Damaged = Unit {0}
IsWhole status = ⊥

-- the run ended early, for a failing sink or for want of memory, or some reply was for want of memory
abbrev pub IsCutShort : Status → Type 0
IsCutShort Write = Unit {0}
IsCutShort Memory = Unit {0}
IsCutShort status = ⊥

-- a text was printed in place of replies
abbrev pub IsText : Status → Type 0
IsText Usage = Unit {0}
IsText Script = Unit {0}
IsText TooLong = Unit {0}
IsText status = ⊥

-- no line ran
abbrev pub IsBeforeLines : Status → Type 0
IsBeforeLines status = IsText status ⊎ (status ≡ Read)

-- the source was read to its end
abbrev pub IsReadWhole : Status → Type 0
IsReadWhole status = IsWhole status ⊎ (status ≡ Script) ⊎ (status ≡ Write)

-- the statuses that a task may have: its own, unless the source fails or memory is wanting before
abbrev pub IsStatusOf : Task → Status → Type 0
IsStatusOf usage status = (status ≡ Usage) ⊎ (status ≡ Memory)
IsStatusOf too_long status = (status ≡ TooLong) ⊎ (status ≡ Read) ⊎ (status ≡ Memory)
IsStatusOf (fault number) status = (status ≡ Script) ⊎ (status ≡ Read) ⊎ (status ≡ Memory)
IsStatusOf (script lines) status = IsWhole status ⊎ IsCutShort status ⊎ (status ≡ Read)

-- some line found damage
abbrev pub has_damage : List Mark → Bool
has_damage marks = list_any (λ mark. mark.refusal == 20) marks

-- the status of a run whose one line was refused by this number, or by none where it is 0
abbrev pub status_of_number : ℕ → Status
status_of_number number =
    if number == 0 then Success
    else if number == 24 then Memory
    else if number == 22 || number == 23 then Device
    else if number == 20 then Damaged
    else Refused

abbrev pub with_mark : Status → Mark → Status
with_mark status mark = first_status status (status_of_number mark.refusal)

-- the status of a run whose every line ran, where no write failed
abbrev pub status_of : List Mark → Status
status_of marks = fold with_mark Success marks

-- damage is that of the log
abbrev pub IsOfLog : Ran → Type 0
IsOfLog ran = (file : List ℕ) → ran.refused ≡ Some (DamagedFile file) → file ≡ log_name

-- how a run of a task ends
pub record Ends (task : Task) (status : Status) (ran : List Ran) : Type 0 where
  pub due : IsStatusOf task status
  pub each_mark : (maps : ℕ → Map) → AreRan (start maps) (lines_of_task task) ran
  pub named : AllByRecursion IsOfLog ran
  pub every_line : IsWhole status → length ran ≡ length (lines_of_task task)

-- the first bytes of a text were taken, any number of them
abbrev pub TakesPart : List ℕ → List ℕ → List ℕ → Type 0
TakesPart before now text = (n : ℕ) × (now ≡ before ++ take n text)

-- the text of the lines before the last one was taken, and a part of what the last one adds to it
pub record StopsAtLast (task : Task) (ran : List Ran) (before now : List ℕ) : Type 0 where
  pub front : List Ran
  pub last : Ran
  pub ran_is : ran ≡ front ++ last ∷ []
  pub rest : List ℕ
  pub text_is : text_of task ran ≡ text_of task front ++ rest
  pub taken : TakesPart (before ++ text_of task front) now rest

-- what a run prints: a text, or the replies of the lines that ran. A part of it is printed where the run was cut short, or
-- where the sink failed; no line runs behind a failed write
pub record Prints (task : Task) (status : Status) (ran : List Ran) (before now : List ℕ) (faults_before faults_now : ℕ) : Type 0 where
  pub whole : IsWhole status → now ≡ before ++ text_of task ran
  pub part : IsCutShort status → TakesPart before now (text_of task ran)
  pub stops : status ≡ Write → StopsAtLast task ran before now
  pub text : IsText status → (now ≡ before ++ text_of task ran) ⊎ (TakesPart before now (text_of task ran) × Rose faults_before faults_now)
  pub none : status ≡ Read → now ≡ before

-- the causes of a status, which hold whether or not a device tells what it holds
pub record Causes (status : Status) (marks : List Mark) (faults_before faults_now : ℕ) : Type 0 where
  pub ranked : IsWhole status → status ≡ status_of marks
  pub unmarked : IsBeforeLines status → marks ≡ []
  pub write : status ≡ Write → Rose faults_before faults_now
  pub later : faults_before ≤ faults_now

-- the marks of the lines that ran
abbrev pub marks_of : List Ran → List Mark
marks_of ran = map (λ (r : Ran). r.mark) ran

-- what a run comes to: what each line came to, what was printed of it, and what a crash may leave then
pub record RunMeets (task : Task) (status : Status) (marks : List Mark) (Printed Left : List Ran → Type 0) : Type 0 where
  pub ran : List Ran
  pub marked : marks ≡ marks_of ran
  pub ends : Ends task status ran
  pub printed : Printed ran
  pub left : Left ran
