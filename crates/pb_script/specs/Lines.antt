-- The lines of a script, by their words.
use Rattle.std.specs.Prelude.{ℕ, if◌then◌else◌, List, [], ◌∷◌, Option, Some, None, codes}
use Rattle.std.specs.Str.{bytes_eq}
use Rattle.pb_script.specs.Answers.{◌>>=◌, ◌>>◌}
use Rattle.pb_script.specs.Words.{words_of}
use Rattle.pb_script.specs.Strings.{string_of, store_of}
use Rattle.pb_script.specs.Fields.{word_at, string_at, name_at, store_at, behind, at_end}
use Rattle.pb_script.specs.Commands.{command_of, is_started}
use Rattle.pb_script.specs.declared.command.Command.TheVariants.{Set}
use Rattle.pb_script.specs.declared.line.Lane.{Lane}
use Rattle.pb_script.specs.declared.line.Lane.TheVariants.{Fg, Bg}
use Rattle.pb_script.specs.declared.line.Line.{Line}
use Rattle.pb_script.specs.declared.line.Line.TheVariants.{Open, Close, Stop, Turn, Levels, Whole, Start, Table, Export, DropHandle, GetAt, Unpin, Objects, Calls}

-- a store, and no word behind it
unfoldable pub store_alone : List (List ℕ) → Option ℕ
store_alone words = do
  store ← store_at words
  at_end store.1
  Some store.0

-- a name, and no word behind it
unfoldable pub name_alone : List (List ℕ) → Option (List ℕ)
name_alone words = do
  name ← name_at words
  at_end name.1
  Some name.0

unfoldable pub open_of : List (List ℕ) → Option Line
open_of words = do
  store ← store_alone words
  Some (Open store)

unfoldable pub close_of : List (List ℕ) → Option Line
close_of words = do
  store ← store_alone words
  Some (Close store)

unfoldable pub stop_of : List (List ℕ) → Option Line
stop_of words = do
  store ← store_alone words
  Some (Stop store)

unfoldable pub levels_of : List (List ℕ) → Option Line
levels_of words = do
  store ← store_alone words
  Some (Levels store)

-- nothing, or the word `bg` alone
unfoldable pub lane_of : List (List ℕ) → Option Lane
lane_of [] = Some Fg
lane_of (word ∷ words) = do
  rest ← behind (codes "bg") (word ∷ words)
  at_end rest
  Some Bg

unfoldable pub turn_of : List (List ℕ) → Option Line
turn_of words = do
  store ← store_at words
  lane ← lane_of store.1
  Some (Turn store.0 lane)

unfoldable pub start_of : List (List ℕ) → Option Line
start_of words = do
  store ← store_at words
  command ← command_of store.1
  if is_started command then Some (Start store.0 command) else None

-- a store's letter, and a command to it
unfoldable pub whole_named : List ℕ → List (List ℕ) → Option Line
whole_named first words = do
  store ← store_of first
  command ← command_of words
  Some (Whole store command)

-- a store's `set`, by the words of its key and value
unfoldable pub set_line : ℕ → List ℕ → List ℕ → Option Line
set_line store key value = do
  k ← string_of key
  v ← string_of value
  Some (Whole store (Set k v))

-- the first line of a block, as the line of a table without lines
unfoldable pub table_of : List (List ℕ) → Option Line
table_of words = do
  table ← name_alone words
  Some (Table table [])

unfoldable pub export_of : List (List ℕ) → Option Line
export_of words = do
  table ← name_at words
  name ← name_alone table.1
  Some (Export table.0 name)

unfoldable pub drop_of : List (List ℕ) → Option Line
drop_of words = do
  handle ← name_alone words
  Some (DropHandle handle)

unfoldable pub get_at_of : List (List ℕ) → Option Line
get_at_of words = do
  pin ← name_at words
  key ← string_at pin.1
  at_end key.1
  Some (GetAt pin.0 key.0)

unfoldable pub unpin_of : List (List ℕ) → Option Line
unpin_of words = do
  pin ← name_alone words
  Some (Unpin pin)

unfoldable pub objects_of : List (List ℕ) → Option Line
objects_of words = do
  at_end words
  Some Objects

unfoldable pub calls_of : List (List ℕ) → Option Line
calls_of words = do
  at_end words
  Some Calls

-- lines that name no store, and then a store's letter with its command
unfoldable pub family_line : List ℕ → List (List ℕ) → Option Line
family_line first words =
    if bytes_eq first (codes "table") then table_of words
    else if bytes_eq first (codes "export") then export_of words
    else if bytes_eq first (codes "drop") then drop_of words
    else if bytes_eq first (codes "get") then get_at_of words
    else if bytes_eq first (codes "unpin") then unpin_of words
    else if bytes_eq first (codes "objects") then objects_of words
    else if bytes_eq first (codes "calls") then calls_of words
    else whole_named first words

-- lines that name their store behind the first word, and then the others
unfoldable pub line_named : List ℕ → List (List ℕ) → Option Line
line_named first words =
    if bytes_eq first (codes "open") then open_of words
    else if bytes_eq first (codes "close") then close_of words
    else if bytes_eq first (codes "stop") then stop_of words
    else if bytes_eq first (codes "turn") then turn_of words
    else if bytes_eq first (codes "levels") then levels_of words
    else if bytes_eq first (codes "start") then start_of words
    else family_line first words

-- what a line says that is not skipped
unfoldable pub line_of : List ℕ → Option Line
line_of text = do
  first ← word_at (words_of text)
  line_named first.0 first.1
