-- What a command stands for: in the log, and for a map.
use Rattle.std.specs.Prelude.{ℕ, ◌+◌, length}
use Rattle.pb_keys.specs.Value.{IsValue}
use Rattle.pb_payloads.specs.Log.{LogEntry}
use Rattle.pb_payloads.specs.Logged.{Logged}
use Rattle.pb_rows.specs.Changing.{Changing}
use Rattle.pb_wal.specs.declared.entry.Change.{Change}
use Rattle.pb_wal.specs.declared.entry.Change.TheVariants.{Set, Del, DelRange}
use Rattle.pb_wal.specs.declared.entry.Entry.{Entry}

-- as a log keeps it
abbrev pub logged_of : Change → Logged
logged_of (Set key value) = Logged.Set key value
logged_of (Del key) = Logged.Del key
logged_of (DelRange span) = Logged.DelRange span

-- what it does to a map
abbrev pub changing_of : Change → Changing
changing_of (Set key value) = Changing.Set key value
changing_of (Del key) = Changing.Del key
changing_of (DelRange span) = Changing.DelRange span

abbrev pub entry_of : Entry → LogEntry
entry_of entry = record { count = entry.count; command = logged_of entry.change }

-- the lengths of a key and its value, or of a span's ends; 0 for what no log entry says
abbrev pub length_of_changing : Changing → ℕ
length_of_changing (Changing.Set key value) = length key + length value
length_of_changing (Changing.Del key) = length key
length_of_changing (Changing.DelRange span) = length span.lo + length span.hi
length_of_changing (Changing.Excise span) = 0
length_of_changing (Changing.Ingest layers) = 0
length_of_changing (Changing.IngestExcise span layers) = 0
length_of_changing (Changing.External view layer) = 0
length_of_changing (Changing.Receive span sub) = 0

-- its value, if it has one, is not too long
abbrev pub HasShortValue : Change → Type 0
HasShortValue (Set key value) = IsValue value
HasShortValue (Del key) = Unit {0}
HasShortValue (DelRange span) = Unit {0}
