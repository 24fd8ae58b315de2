-- What a whole script says.
use Rattle.std.specs.Prelude.{ℕ, ◌+◌, if◌then◌else◌, List, [], ◌∷◌, ◌++◌, map, Option, Some, None}
use Rattle.pb_script.specs.Answers.{◌>>=◌}
use Rattle.pb_script.specs.Texts.{texts_of}
use Rattle.pb_script.specs.Words.{is_skipped}
use Rattle.pb_script.specs.Lines.{line_of}
use Rattle.pb_script.specs.TableLines.{table_line_of, is_end}
use Rattle.pb_script.specs.declared.line.Line.{Line}
use Rattle.pb_script.specs.declared.line.Line.TheVariants.{Table}
use Rattle.pb_script.specs.declared.script.Place.{Place}
use Rattle.pb_script.specs.declared.script.Place.TheVariants.{Between, Within}

-- its lines up to the first fault, each with the number of its first text, counted from 1; where the fault lies in a block, the number of
-- the block's first text; and the fault's number
pub record NumberedRead : Type 0 where
  pub lines : List (ℕ × Line)
  pub within : Option ℕ
  pub fault : Option ℕ

-- its lines, or the number of its fault
pub data ScriptRead : Type 0 where
  Lines : List Line → ScriptRead
  Fault : ℕ → ScriptRead

-- a line that is read, and perhaps one that ends there; nothing ends where a block begins
abbrev pub after_line : Line → Place × Option Line
after_line (Table table lines) = (Within table lines, None)
after_line line = (Between, Some line)

-- the same of a line that may be off the grammar
abbrev pub after_read : Option Line → Option (Place × Option Line)
after_read read = do
  line ← read
  Some (after_line line)

-- the place behind a text that is not skipped, and the line that it ends: nothing where the text is off the grammar
unfoldable pub said : Place → List ℕ → Option (Place × Option Line)
said Between text = after_read (line_of text)
said (Within table lines) text =
    if is_end text then Some (Between, Some (Table table lines))
    else (do
      line ← table_line_of text
      Some (Within table (lines ++ line ∷ []), None))

-- a skipped text says nothing
unfoldable pub step : Place → List ℕ → Option (Place × Option Line)
step place text = if is_skipped text then Some (place, None) else said place text

-- the lines that a text ends: one, or none
abbrev pub ended : Option Line → List Line
ended None = []
ended (Some line) = line ∷ []

-- these lines and the one that a text ends, with the place behind the text
abbrev pub with_lines : List Line → Option (Place × Option Line) → Option (Place × List Line)
with_lines lines read = do
  next ← read
  Some (next.0, lines ++ ended next.1)

-- the number of the first text of what a text belongs to: of the block in which it stands, or its own
abbrev pub first_number : Place → ℕ → ℕ → ℕ
first_number Between block number = number
first_number (Within table lines) block number = block

-- the line that a text ends, with its number
abbrev pub ended_as : ℕ → Option Line → List (ℕ × Line)
ended_as number None = []
ended_as number (Some line) = (number, line) ∷ []

abbrev pub block_at : Place → ℕ → Option ℕ
block_at Between block = None
block_at (Within table lines) block = Some block

abbrev pub fault_at : Place → ℕ → ℕ → NumberedRead
fault_at place block number = record { lines = []; within = block_at place block; fault = Some number }

-- a block that the texts don't end is a fault behind the last of them
abbrev pub at_last : Place → ℕ → ℕ → NumberedRead
at_last Between block number = record { lines = []; within = None; fault = None }
at_last (Within table lines) block number = fault_at (Within table lines) block number

abbrev pub behind_lines : List (ℕ × Line) → NumberedRead → NumberedRead
behind_lines front read = record { lines = front ++ read.lines; within = read.within; fault = read.fault }

-- what texts say of which the first has this number and stands at this place, within the block that began at that number
unfoldable pub numbered_from : Place → ℕ → ℕ → List (List ℕ) → NumberedRead
numbered_from place block number [] = at_last place block number
numbered_from place block number (text ∷ texts) =
    elim (step place text) [
      | None ↦ fault_at place block number
      | Some next ↦
          behind_lines (ended_as (first_number place block number) next.1) (numbered_from next.0 (first_number place block number) (number + 1) texts)
    ]

unfoldable pub numbered : List ℕ → NumberedRead
numbered script = numbered_from Between 0 1 (texts_of script)

abbrev pub without_numbers : List (ℕ × Line) → List Line
without_numbers lines = map (λ line. line.1) lines

-- the fault where there is one, else the lines
abbrev pub as_read : NumberedRead → ScriptRead
as_read read = elim read.fault [ None ↦ Lines (without_numbers read.lines) | Some number ↦ Fault number ]

unfoldable pub lines_of : List ℕ → ScriptRead
lines_of script = as_read (numbered script)

-- these numbered lines and the one that a text ends, with the place behind the text
abbrev pub with_numbered : List (ℕ × Line) → ℕ → Option (Place × Option Line) → Option (Place × List (ℕ × Line))
with_numbered lines number read = do
  next ← read
  Some (next.0, lines ++ ended_as number next.1)
