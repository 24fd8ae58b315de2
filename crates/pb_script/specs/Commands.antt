-- The commands to a store, by their words.
use Rattle.std.specs.Prelude.{ℕ, Bool, true, false, if◌then◌else◌, List, Option, Some, None, codes}
use Rattle.std.specs.Str.{bytes_eq}
use Rattle.pb_script.specs.Answers.{◌>>=◌, ◌>>◌}
use Rattle.pb_script.specs.Fields.{word_at, string_at, name_at, level_at, pair_at, behind, at_end, labelled_at, some_names_of}
use Rattle.pb_script.specs.declared.command.Command.{Command}
use Rattle.pb_script.specs.declared.command.Command.TheVariants.{Set, Del, DelRange, Get, Scan, Flush, Compact, Release, Ingest, Excise, IngestExcise, External, Lend, Receive, Pin}

unfoldable pub set_of : List (List ℕ) → Option Command
set_of words = do
  pair ← pair_at words
  at_end pair.1
  Some (Set pair.0.0 pair.0.1)

unfoldable pub del_of : List (List ℕ) → Option Command
del_of words = do
  key ← string_at words
  at_end key.1
  Some (Del key.0)

unfoldable pub del_range_of : List (List ℕ) → Option Command
del_range_of words = do
  ends ← pair_at words
  at_end ends.1
  Some (DelRange ends.0.0 ends.0.1)

unfoldable pub get_of : List (List ℕ) → Option Command
get_of words = do
  key ← string_at words
  at_end key.1
  Some (Get key.0)

unfoldable pub scan_of : List (List ℕ) → Option Command
scan_of words = do
  ends ← pair_at words
  at_end ends.1
  Some (Scan ends.0.0 ends.0.1)

unfoldable pub flush_of : List (List ℕ) → Option Command
flush_of words = do
  at_end words
  Some Flush

unfoldable pub compact_of : List (List ℕ) → Option Command
compact_of words = do
  level ← level_at words
  ends ← pair_at level.1
  at_end ends.1
  Some (Compact level.0 ends.0.0 ends.0.1)

unfoldable pub release_of : List (List ℕ) → Option Command
release_of words = do
  at_end words
  Some Release

unfoldable pub ingest_of : List (List ℕ) → Option Command
ingest_of words = do
  tables ← some_names_of words
  Some (Ingest tables)

unfoldable pub excise_of : List (List ℕ) → Option Command
excise_of words = do
  ends ← pair_at words
  at_end ends.1
  Some (Excise ends.0.0 ends.0.1)

unfoldable pub ingest_excise_of : List (List ℕ) → Option Command
ingest_excise_of words = do
  ends ← pair_at words
  tables ← some_names_of ends.1
  Some (IngestExcise (record { lo = ends.0.0; hi = ends.0.1; tables = tables }))

unfoldable pub external_of : List (List ℕ) → Option Command
external_of words = do
  name ← name_at words
  ends ← pair_at name.1
  prefix ← labelled_at (codes "prefix=") ends.1
  suffix ← labelled_at (codes "suffix=") prefix.1
  at_end suffix.1
  Some (External (record { name = name.0; lo = ends.0.0; hi = ends.0.1; prefix = prefix.0; suffix = suffix.0 }))

unfoldable pub lend_of : List (List ℕ) → Option Command
lend_of words = do
  ends ← pair_at words
  rest ← behind (codes "as") ends.1
  handle ← name_at rest
  at_end handle.1
  Some (Lend (record { lo = ends.0.0; hi = ends.0.1; handle = handle.0 }))

unfoldable pub receive_of : List (List ℕ) → Option Command
receive_of words = do
  handle ← name_at words
  at_end handle.1
  Some (Receive handle.0)

unfoldable pub pin_of : List (List ℕ) → Option Command
pin_of words = do
  rest ← behind (codes "as") words
  pin ← name_at rest
  at_end pin.1
  Some (Pin pin.0)

-- commands on what is lent and kept
unfoldable pub sharing_named : List ℕ → List (List ℕ) → Option Command
sharing_named name words =
    if bytes_eq name (codes "external") then external_of words
    else if bytes_eq name (codes "lend") then lend_of words
    else if bytes_eq name (codes "receive") then receive_of words
    else if bytes_eq name (codes "pin") then pin_of words
    else None

-- commands on the tables of a store
unfoldable pub tables_named : List ℕ → List (List ℕ) → Option Command
tables_named name words =
    if bytes_eq name (codes "flush") then flush_of words
    else if bytes_eq name (codes "compact") then compact_of words
    else if bytes_eq name (codes "release") then release_of words
    else if bytes_eq name (codes "ingest") then ingest_of words
    else if bytes_eq name (codes "excise") then excise_of words
    else if bytes_eq name (codes "ingestexcise") then ingest_excise_of words
    else sharing_named name words

-- commands on the rows of a store, and then the others
unfoldable pub command_named : List ℕ → List (List ℕ) → Option Command
command_named name words =
    if bytes_eq name (codes "set") then set_of words
    else if bytes_eq name (codes "del") then del_of words
    else if bytes_eq name (codes "delrange") then del_range_of words
    else if bytes_eq name (codes "get") then get_of words
    else if bytes_eq name (codes "scan") then scan_of words
    else tables_named name words

unfoldable pub command_of : List (List ℕ) → Option Command
command_of words = do
  name ← word_at words
  command_named name.0 name.1

-- the commands that turns can carry on
abbrev pub is_started : Command → Bool
is_started Flush = true
is_started (Compact level lo hi) = true
is_started (Ingest tables) = true
is_started (Excise lo hi) = true
is_started (IngestExcise excise) = true
is_started (External external) = true
is_started (Receive handle) = true
is_started command = false
