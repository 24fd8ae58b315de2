-- The reply that a line calls for.
use Rattle.std.specs.Prelude.{◌+◌, ◌==◌, Bool, false, if◌then◌else◌, Option, Some, None}
use Rattle.std.specs.Option.{option_or}
use Rattle.pb_rows.specs.Changing.{Changing, after}
use Rattle.pb_reply.specs.Refusals.{refusal_number}
use Rattle.pb_reply.specs.declared.refusal.Refusal.{Refusal}
use Rattle.pb_reply.specs.declared.refusal.Refusal.TheVariants.{NoMemory}
use Rattle.pb_reply.specs.declared.reply.Reply.{Reply}
use Rattle.pb_reply.specs.declared.reply.Reply.TheVariants as reply
use Rattle.pb_script.specs.declared.command.Command.{Command}
use Rattle.pb_script.specs.declared.command.Command.TheVariants as command
use Rattle.pb_script.specs.declared.line.Line.{Line}
use Rattle.pb_script.specs.declared.line.Line.TheVariants as line
use Rattle.pb_machine.specs.Family.{Effect, FamilyState, History, StoreState, Started, in_lane}
use Rattle.pb_machine.specs.Effects.{change_of, effect_of}
use Rattle.pb_machine.specs.Causes.{first_cause}
use Rattle.pb_machine.specs.Ran.{Ran}

-- ---- refusals

abbrev pub is_no_memory : Option Refusal → Bool
is_no_memory None = false
is_no_memory (Some refusal) = refusal_number refusal == 24

-- want of memory that the work met, before all else; then what the state gives; then what the work met
abbrev pub refusal_to : FamilyState → Line → Ran → Option Refusal
refusal_to family line ran = if is_no_memory ran.refused then Some NoMemory else option_or (first_cause family line) ran.refused

-- ---- histories

-- with one command more, where it changes the map
abbrev pub changed_by : Option Changing → History → History
changed_by None history = history
changed_by (Some change) history = record history { count = history.count + 1; map = after history.map change }

-- ---- replies

-- the count after the command, what it read, or its word
abbrev pub command_reply : StoreState → Command → Effect → Ran → Reply
command_reply store (command.Set key value) effect ran = reply.Accepted (changed_by (change_of effect ran) store.history).count
command_reply store (command.Del key) effect ran = reply.Accepted (changed_by (change_of effect ran) store.history).count
command_reply store (command.DelRange lo hi) effect ran = reply.Accepted (changed_by (change_of effect ran) store.history).count
command_reply store (command.Get key) effect ran = ran.read
command_reply store (command.Scan lo hi) effect ran = ran.read
command_reply store command.Flush effect ran = reply.Done
command_reply store (command.Compact level lo hi) effect ran = reply.Done
command_reply store command.Release effect ran = reply.Done
command_reply store (command.Ingest tables) effect ran = reply.Accepted (changed_by (change_of effect ran) store.history).count
command_reply store (command.Excise lo hi) effect ran = reply.Accepted (changed_by (change_of effect ran) store.history).count
command_reply store (command.IngestExcise words) effect ran = reply.Accepted (changed_by (change_of effect ran) store.history).count
command_reply store (command.External words) effect ran = reply.Accepted (changed_by (change_of effect ran) store.history).count
command_reply store (command.Lend words) effect ran = reply.Lent words.handle
command_reply store (command.Receive handle) effect ran = reply.Accepted (changed_by (change_of effect ran) store.history).count
command_reply store (command.Pin pin) effect ran = reply.Pinned pin

-- a last turn replies as its command; without one it released an object
abbrev pub last_turn_reply : StoreState → Option Started → Ran → Reply
last_turn_reply store None ran = reply.Released
last_turn_reply store (Some started) ran = command_reply store started.command started.effect ran

-- of a line that isn't refused
abbrev pub own_reply : FamilyState → Line → Ran → Reply
own_reply family (line.Open store) ran = reply.Opened ran.mark.count
own_reply family (line.Close store) ran = reply.Closed
own_reply family (line.Stop store) ran = reply.Stopped
own_reply family (line.Turn store lane) ran =
    if ran.mark.more then reply.Working else last_turn_reply (family.stores store) (in_lane (family.stores store) lane) ran
own_reply family (line.Levels store) ran = ran.read
own_reply family (line.Whole store command) ran = command_reply (family.stores store) command (effect_of family command) ran
own_reply family (line.Start store command) ran = reply.Started
own_reply family (line.Table table lines) ran = reply.Table table
own_reply family (line.Export table name) ran = reply.Exported
own_reply family (line.DropHandle handle) ran = reply.Dropped
own_reply family (line.GetAt pin key) ran = ran.read
own_reply family (line.Unpin pin) ran = reply.Unpinned
own_reply family line.Objects ran = ran.read
own_reply family line.Calls ran = ran.read

abbrev pub reply_or : Option Refusal → Reply → Reply
reply_or None own = own
reply_or (Some refusal) own = reply.Refused refusal

abbrev pub reply_to : FamilyState → Line → Ran → Reply
reply_to family line ran = reply_or (refusal_to family line ran) (own_reply family line ran)
