-- Which lines of a script are built, and what a script says of them.
use Rattle.std.specs.Prelude.{ℕ, Bool, false, ◌&&◌, ◌==◌, if◌then◌else◌, List, [], ◌∷◌, Option, Some, None}
use Rattle.std.specs.Option.{option_or}
use Rattle.pb_script.specs.Script.{NumberedRead, numbered, without_numbers}
use Rattle.pb_names.specs.Ranges.{is_name}
use Rattle.pb_script.specs.declared.command.Command.{Command}
use Rattle.pb_script.specs.declared.command.Command.TheVariants.{Set, Get}
use Rattle.pb_script.specs.declared.line.Line.{Line}
use Rattle.pb_script.specs.declared.line.Line.TheVariants.{Open, Whole}

-- the store that is built
abbrev pub store_a : ℕ
store_a = 1

-- keys and values are names
abbrev pub is_built_command : Command → Bool
is_built_command (Set key value) = is_name key && is_name value
is_built_command (Get key) = is_name key
is_built_command command = false

-- the other lines come later
abbrev pub is_built : Line → Bool
is_built (Open store) = store == store_a
is_built (Whole store command) = store == store_a && is_built_command command
is_built line = false

-- the number of the first line that isn't built
abbrev pub first_unbuilt : List (ℕ × Line) → Option ℕ
first_unbuilt [] = None
first_unbuilt (line ∷ lines) = if is_built line.1 then first_unbuilt lines else Some line.0

-- the first text that is off the grammar or not built. Where there are several kinds, they come in this order: the lines stand before the
-- fault, and a block that the fault lies in begins before it, and isn't built
abbrev pub fault_of : NumberedRead → Option ℕ
fault_of read = option_or (first_unbuilt read.lines) (option_or read.within read.fault)

-- its number, counted from 1
abbrev pub fault_line : List ℕ → Option ℕ
fault_line script = fault_of (numbered script)

-- the lines of a script that has no fault
abbrev pub lines_of_script : List ℕ → List Line
lines_of_script script = without_numbers (numbered script).lines
