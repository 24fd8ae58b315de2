-- What the payloads of a command log say.
use Rattle.std.specs.Prelude.{◌≡◌, ℕ, ◌<◌, List, [], ◌∷◌, All, map}
use Rattle.std.specs.List.{flat_map}
use Rattle.pb_payloads.specs.Logged.{Logged, Waiting, IsLogged, logged_spelling}
use Rattle.pb_payloads.specs.Logged.Logged.{Set, Del, DelRange, Ingest}

-- a command, and the count of commands up to it
pub record LogEntry : Type 0 where
  pub count : ℕ
  pub command : Logged

abbrev pub entry_spelling : LogEntry → List ℕ
entry_spelling entry = logged_spelling entry.count entry.command

abbrev pub IsEntry : LogEntry → Type 0
IsEntry entry = IsLogged entry.count entry.command

-- the counts rise strictly, from above this one on
abbrev pub RiseAbove : ℕ → List LogEntry → Type 0
RiseAbove count [] = Unit {0}
RiseAbove count (entry ∷ entries) = (count < entry.count) × RiseAbove entry.count entries

-- the count of the last entry, or this one where there is none
abbrev pub last_count : ℕ → List LogEntry → ℕ
last_count count [] = count
last_count count (entry ∷ entries) = last_count entry.count entries

-- the payloads are these entries, all behind the commands that are in tables
pub record SaysLog (flushed : ℕ) (payloads : List (List ℕ)) (entries : List LogEntry) : Type 0 where
  pub spelled : payloads ≡ map entry_spelling entries
  pub in_form : All IsEntry entries
  pub rise : RiseAbove flushed entries

-- ---- what waits in a log

-- the local tables of a command
abbrev pub waiting_of : Logged → List Waiting
waiting_of (Set key value) = []
waiting_of (Del key) = []
waiting_of (DelRange span) = []
waiting_of (Ingest span tables) = tables

abbrev pub waiting_in : List LogEntry → List Waiting
waiting_in log = flat_map (λ entry. waiting_of entry.command) log
