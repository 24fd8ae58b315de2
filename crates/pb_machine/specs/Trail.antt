-- One line of a right run, and many.
use Rattle.std.specs.Prelude.{◌≡◌, ℕ, ◌+◌, ◌<◌, ◌^◌, Bool, true, false, not, ◌&&◌, ◌||◌, ◌==◌, nat_le, ◌⊎◌, if◌then◌else◌, List, [], ◌∷◌, ◌++◌, map, Option, Some, None, IfSome, IsSome, MatchBool, option_to_list}
use Rattle.std.specs.FinMap.{entries, get}
use Rattle.pb_devices.specs.declared.trace.Mark.{Mark}
use Rattle.pb_keys.specs.Map.{Map, cut}
use Rattle.pb_keys.specs.Span.{span_of}
use Rattle.pb_rows.specs.Changing.{Changing}
use Rattle.pb_reply.specs.Refusals.{refusal_number}
use Rattle.pb_reply.specs.declared.refusal.Refusal.{Refusal}
use Rattle.pb_reply.specs.declared.reply.Reply.{Reply}
use Rattle.pb_reply.specs.declared.reply.Reply.TheVariants as reply
use Rattle.pb_script.specs.declared.command.Command.{Command}
use Rattle.pb_script.specs.declared.command.Command.TheVariants as command
use Rattle.pb_script.specs.declared.line.Lane.{Lane}
use Rattle.pb_script.specs.declared.line.Lane.TheVariants.{Fg, Bg}
use Rattle.pb_script.specs.declared.line.Line.{Line}
use Rattle.pb_script.specs.declared.line.Line.TheVariants as line
use Rattle.pb_machine.specs.Named.{named}
use Rattle.pb_machine.specs.Family.{FamilyState, History, PinState, Started, in_lane, is_down, is_open}
use Rattle.pb_machine.specs.Effects.{change_of, effect_of}
use Rattle.pb_machine.specs.Meeting.{is_answer, may_meet}
use Rattle.pb_machine.specs.Replies.{refusal_to, reply_to}
use Rattle.pb_machine.specs.After.{effect_in, is_told_down, line_after, store_named}
use Rattle.pb_machine.specs.Ran.{Ran}

-- ---- marks

-- 0 where the line wasn't refused
abbrev pub refusal_in : Reply → ℕ
refusal_in (reply.Refused refusal) = refusal_number refusal
refusal_in other = 0

-- 0 where the reply tells no count
abbrev pub count_in : Reply → ℕ
count_in (reply.Opened count) = count
count_in (reply.Accepted count) = count
count_in other = 0

-- whether the command goes on in later turns
abbrev pub goes_on : Reply → Bool
goes_on reply.Started = true
goes_on reply.Working = true
goes_on other = false

abbrev pub store_numbers : List ℕ
store_numbers = 1 ∷ 2 ∷ 3 ∷ 4 ∷ 5 ∷ 6 ∷ 7 ∷ 8 ∷ []

-- whether each store of A to H is Down
abbrev pub downs : FamilyState → List Bool
downs family = map (λ number. is_down (family.stores number)) store_numbers

-- the mark of a line that was replied to so, where the family is in this state after it
abbrev pub mark_of : Reply → FamilyState → Mark
mark_of reply family = record { refusal = refusal_in reply; count = count_in reply; more = goes_on reply; down = downs family }

-- ---- falls

-- want of memory ends a store that was within one of these
abbrev pub falls_without_memory : Command → Bool
falls_without_memory command.Flush = true
falls_without_memory (command.Compact level lo hi) = true
falls_without_memory command.Release = true
falls_without_memory (command.Ingest tables) = true
falls_without_memory (command.Excise lo hi) = true
falls_without_memory (command.IngestExcise words) = true
falls_without_memory (command.External words) = true
falls_without_memory (command.Receive handle) = true
falls_without_memory command = false

-- a turn falls as its command; without one lane bg releases an object
abbrev pub turn_falls : Lane → Option Started → Bool
turn_falls lane (Some started) = falls_without_memory started.command
turn_falls Fg None = false
turn_falls Bg None = true

abbrev pub line_falls : FamilyState → Line → Bool
line_falls family (line.Whole number command) = falls_without_memory command
line_falls family (line.Turn number lane) = turn_falls lane (in_lane (family.stores number) lane)
line_falls family line = false

-- a command that may flush before it writes
abbrev pub may_flush : Line → Bool
may_flush (line.Whole number (command.Set key value)) = true
may_flush (line.Whole number (command.Del key)) = true
may_flush (line.Whole number (command.DelRange lo hi)) = true
may_flush line = false

-- damage, a missing object and a device's fault end an open store
abbrev pub is_fault : ℕ → Bool
is_fault number = nat_le 20 number && nat_le number 23

abbrev pub must_fall : FamilyState → Line → Option Refusal → Bool
must_fall family line None = false
must_fall family line (Some refusal) = is_fault (refusal_number refusal) || ((refusal_number refusal == 24) && line_falls family line)

abbrev pub may_fall : FamilyState → Line → Option Refusal → Bool
may_fall family line None = false
may_fall family line (Some refusal) =
    must_fall family line (Some refusal) || ((refusal_number refusal == 24) && may_flush line)

-- an open store is told Down where it must fall, and only where it may
pub record TellsFall (family : FamilyState) (line : Line) (ran : Ran) (store : ℕ) : Type 0 where
  pub must : must_fall family line (refusal_to family line ran) ≡ true → is_told_down ran store ≡ true
  pub only : is_told_down ran store ≡ true → may_fall family line (refusal_to family line ran) ≡ true

-- ---- a line

pub record RanLine (family : FamilyState) (line : Line) (ran : Ran) : Type 0 where
  pub mark : ran.mark ≡ mark_of (reply_to family line ran) (line_after family line ran)
  pub met : IfSome ran.refused (λ refusal. may_meet family line refusal ≡ true)
  pub answered : is_answer line ran.read ≡ true
  pub counted : ran.mark.count < 2 ^ 62
  pub falls : IfSome (store_named family line) (λ store. is_open (family.stores store) ≡ true → TellsFall family line ran store)

-- each line ran. There may be lines behind those
abbrev pub AreRan : FamilyState → List Line → List Ran → Type 0
AreRan family lines [] = Unit {0}
AreRan family [] (ran ∷ more) = ⊥
AreRan family (line ∷ lines) (ran ∷ more) = RanLine family line ran × AreRan (line_after family line ran) lines more

-- the replies of the lines that ran, in order
abbrev pub replies : FamilyState → List Line → List Ran → List Reply
replies family lines [] = []
replies family [] (ran ∷ more) = []
replies family (line ∷ lines) (ran ∷ more) = reply_to family line ran ∷ replies (line_after family line ran) lines more

-- the state after the lines that ran
abbrev pub states_after : FamilyState → List Line → List Ran → FamilyState
states_after family lines [] = family
states_after family [] (ran ∷ more) = family
states_after family (line ∷ lines) (ran ∷ more) = states_after (line_after family line ran) lines more

-- ---- premises of a caller

abbrev pub looked_up : Option (List ℕ) → Reply
looked_up None = reply.Absent
looked_up (Some value) = reply.Value value

abbrev pub scanned : Map → Reply
scanned map_within = reply.Rows (map (λ pair. record { key = pair.0; value = pair.1 }) (entries map_within))

abbrev pub Reads : Map → Command → Reply → Type 0
Reads map (command.Get key) read = read ≡ looked_up (get map key)
Reads map (command.Scan lo hi) read = read ≡ scanned (cut map (span_of lo hi))
Reads map command read = Unit {0}

abbrev pub ReadsAt : FamilyState → Line → Reply → Type 0
ReadsAt family (line.Whole number command) read = Reads (family.stores number).history.map command read
ReadsAt family (line.GetAt pin key) read = IfSome (named family.pins pin) (λ (p : PinState). read ≡ looked_up (get p.map key))
ReadsAt family line read = Unit {0}

-- a line that isn't refused reads the store's map, or the pin's
abbrev pub ReadsMap : FamilyState → Line → Ran → Type 0
ReadsMap family line ran = refusal_to family line ran ≡ None → ReadsAt family line ran.read

-- the count of the history, or one more where something is pending
abbrev pub IsHistoryCount : History → ℕ → Type 0
IsHistoryCount history count = (count ≡ history.count) ⊎ (IsSome history.pending × (count ≡ history.count + 1))

-- an opening finds the history, and the first one what an image stood for
abbrev pub FindsAt : (ℕ → ℕ → Map → Type 0) → FamilyState → Line → Ran → Type 0
FindsAt MayStandFor family (line.Open store) ran =
    refusal_to family (line.Open store) ran ≡ None
    → MatchBool (family.stores store).history.has_begun (IsHistoryCount (family.stores store).history ran.mark.count)
    (MayStandFor store ran.mark.count (family.stores store).history.map)
FindsAt MayStandFor family line ran = Unit {0}

abbrev pub FindsHistory : (ℕ → ℕ → Map → Type 0) → FamilyState → List Line → List Ran → Type 0
FindsHistory MayStandFor family lines [] = Unit {0}
FindsHistory MayStandFor family [] (ran ∷ more) = Unit {0}
FindsHistory MayStandFor family (line ∷ lines) (ran ∷ more) =
    FindsAt MayStandFor family line ran × FindsHistory MayStandFor (line_after family line ran) lines more

-- the same of the openings behind a store's first
abbrev pub FindsItsHistory : FamilyState → List Line → List Ran → Type 0
FindsItsHistory family lines ran = FindsHistory (λ store count map. Unit {0}) family lines ran

-- ---- what was accepted

-- the pending command, where an opening found another count than the history's
abbrev pub found_done : History → ℕ → Option Changing
found_done history count = if not history.has_begun then None else if count == history.count then None else history.pending

-- what an accepted line changes at the store that it names
abbrev pub own_changes : FamilyState → Line → Ran → List Changing
own_changes family (line.Open number) ran = option_to_list (found_done (family.stores number).history ran.mark.count)
own_changes family (line.Turn number lane) ran =
    if ran.mark.more then [] else option_to_list (effect_in (in_lane (family.stores number) lane) ran)
own_changes family (line.Whole number command) ran = option_to_list (change_of (effect_of family command) ran)
own_changes family line ran = []

abbrev pub unless_refused : Option Refusal → List Changing → List Changing
unless_refused None changes = changes
unless_refused (Some refusal) changes = []

abbrev pub is_named : Option ℕ → ℕ → Bool
is_named None store = false
is_named (Some number) store = store == number

-- what a line changes at a store: a refusal nothing
abbrev pub changes_at : FamilyState → Line → Ran → ℕ → List Changing
changes_at family line ran store =
    unless_refused (refusal_to family line ran) (if is_named (store_named family line) store then own_changes family line ran else [])

-- the changes that lines made at a store, in order
abbrev pub changes_in : FamilyState → List Line → List Ran → ℕ → List Changing
changes_in family lines [] store = []
changes_in family [] (ran ∷ more) store = []
changes_in family (line ∷ lines) (ran ∷ more) store =
    changes_at family line ran store ++ changes_in (line_after family line ran) lines more store
