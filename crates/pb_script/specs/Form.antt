-- What every line that is read keeps to.
use Rattle.std.specs.Prelude.{ℕ, ◌≤◌, ◌<◌, List, length, IfSome, IsTrue}
use Rattle.std.specs.List.{AllByRecursion}
use Rattle.pb_names.specs.Grammar.{IsName}
use Rattle.pb_names.specs.Identity.{IsStore}
use Rattle.pb_script.specs.Commands.{is_started}
use Rattle.pb_script.specs.declared.command.Command.{Command}
use Rattle.pb_script.specs.declared.command.Command.TheVariants as command
use Rattle.pb_script.specs.declared.line.Line.{Line}
use Rattle.pb_script.specs.declared.line.Line.TheVariants as line
use Rattle.pb_script.specs.declared.table_line.TableLine.{TableLine}
use Rattle.pb_script.specs.declared.table_line.TableLine.TheVariants as table

abbrev pub IsByte : ℕ → Type 0
IsByte byte = byte < 256

abbrev pub IsString : List ℕ → Type 0
IsString bytes = AllByRecursion IsByte bytes

-- one or more tables
abbrev pub AreTables : List (List ℕ) → Type 0
AreTables names = (0 < length names) × AllByRecursion IsName names

abbrev pub IsCommand : Command → Type 0
IsCommand (command.Set key value) = IsString key × IsString value
IsCommand (command.Del key) = IsString key
IsCommand (command.DelRange lo hi) = IsString lo × IsString hi
IsCommand (command.Get key) = IsString key
IsCommand (command.Scan lo hi) = IsString lo × IsString hi
IsCommand command.Flush = Unit {0}
IsCommand (command.Compact level lo hi) = (level ≤ 5) × IsString lo × IsString hi
IsCommand command.Release = Unit {0}
IsCommand (command.Ingest tables) = AreTables tables
IsCommand (command.Excise lo hi) = IsString lo × IsString hi
IsCommand (command.IngestExcise excise) = IsString excise.lo × IsString excise.hi × AreTables excise.tables
IsCommand (command.External external) =
    IsName external.name × IsString external.lo × IsString external.hi × IfSome external.prefix IsString × IfSome external.suffix IsString
IsCommand (command.Lend lend) = IsString lend.lo × IsString lend.hi × IsName lend.handle
IsCommand (command.Receive handle) = IsName handle
IsCommand (command.Pin pin) = IsName pin

abbrev pub IsTableLine : TableLine → Type 0
IsTableLine (table.Set key value) = IsString key × IsString value
IsTableLine (table.Del key) = IsString key
IsTableLine (table.DelRange lo hi) = IsString lo × IsString hi

-- stores are 1 to 8, names and levels are those of the grammar, an ingest names a table, and turns can carry a started command on
abbrev pub IsLine : Line → Type 0
IsLine (line.Open store) = IsStore store
IsLine (line.Close store) = IsStore store
IsLine (line.Stop store) = IsStore store
IsLine (line.Turn store lane) = IsStore store
IsLine (line.Levels store) = IsStore store
IsLine (line.Whole store command) = IsStore store × IsCommand command
IsLine (line.Start store command) = IsStore store × IsCommand command × IsTrue (is_started command)
IsLine (line.Table table lines) = IsName table × AllByRecursion IsTableLine lines
IsLine (line.Export table name) = IsName table × IsName name
IsLine (line.DropHandle handle) = IsName handle
IsLine (line.GetAt pin key) = IsName pin × IsString key
IsLine (line.Unpin pin) = IsName pin
IsLine line.Objects = Unit {0}
IsLine line.Calls = Unit {0}
