-- One spelling of each line, as it could stand in a script.
use Rattle.std.specs.Prelude.{ℕ, ◌+◌, List, [], ◌∷◌, ◌++◌, Option, Some, None, codes}
use Rattle.std.specs.List.{flat_map, join_with_byte}
use Rattle.pb_keys.specs.Printed.{word}
use Rattle.pb_script.specs.declared.command.Command.{Command}
use Rattle.pb_script.specs.declared.command.Command.TheVariants as command
use Rattle.pb_script.specs.declared.line.Lane.{Lane}
use Rattle.pb_script.specs.declared.line.Lane.TheVariants.{Fg, Bg}
use Rattle.pb_script.specs.declared.line.Line.{Line}
use Rattle.pb_script.specs.declared.line.Line.TheVariants as line
use Rattle.pb_script.specs.declared.table_line.TableLine.{TableLine}
use Rattle.pb_script.specs.declared.table_line.TableLine.TheVariants as table

-- `A` for 1 to `H` for 8
abbrev pub letter : ℕ → List ℕ
letter store = (64 + store) ∷ []

abbrev pub digit : ℕ → List ℕ
digit level = (48 + level) ∷ []

-- a byte string behind its label, where there is one
abbrev pub labelled : List ℕ → Option (List ℕ) → List (List ℕ)
labelled label None = []
labelled label (Some bytes) = (label ++ word bytes) ∷ []

abbrev pub command_words : Command → List (List ℕ)
command_words (command.Set key value) = codes "set" ∷ word key ∷ word value ∷ []
command_words (command.Del key) = codes "del" ∷ word key ∷ []
command_words (command.DelRange lo hi) = codes "delrange" ∷ word lo ∷ word hi ∷ []
command_words (command.Get key) = codes "get" ∷ word key ∷ []
command_words (command.Scan lo hi) = codes "scan" ∷ word lo ∷ word hi ∷ []
command_words command.Flush = codes "flush" ∷ []
command_words (command.Compact level lo hi) = codes "compact" ∷ digit level ∷ word lo ∷ word hi ∷ []
command_words command.Release = codes "release" ∷ []
command_words (command.Ingest tables) = codes "ingest" ∷ tables
command_words (command.Excise lo hi) = codes "excise" ∷ word lo ∷ word hi ∷ []
command_words (command.IngestExcise excise) = codes "ingestexcise" ∷ word excise.lo ∷ word excise.hi ∷ excise.tables
command_words (command.External external) =
    codes "external" ∷ external.name ∷ word external.lo ∷ word external.hi
    ∷ (labelled (codes "prefix=") external.prefix ++ labelled (codes "suffix=") external.suffix)
command_words (command.Lend lend) = codes "lend" ∷ word lend.lo ∷ word lend.hi ∷ codes "as" ∷ lend.handle ∷ []
command_words (command.Receive handle) = codes "receive" ∷ handle ∷ []
command_words (command.Pin pin) = codes "pin" ∷ codes "as" ∷ pin ∷ []

abbrev pub table_line_words : TableLine → List (List ℕ)
table_line_words (table.Set key value) = codes "set" ∷ word key ∷ word value ∷ []
table_line_words (table.Del key) = codes "del" ∷ word key ∷ []
table_line_words (table.DelRange lo hi) = codes "delrange" ∷ word lo ∷ word hi ∷ []

abbrev pub lane_words : Lane → List (List ℕ)
lane_words Fg = []
lane_words Bg = codes "bg" ∷ []

-- of a table the first line of its block
abbrev pub line_words : Line → List (List ℕ)
line_words (line.Open store) = codes "open" ∷ letter store ∷ []
line_words (line.Close store) = codes "close" ∷ letter store ∷ []
line_words (line.Stop store) = codes "stop" ∷ letter store ∷ []
line_words (line.Turn store lane) = codes "turn" ∷ letter store ∷ lane_words lane
line_words (line.Levels store) = codes "levels" ∷ letter store ∷ []
line_words (line.Whole store command) = letter store ∷ command_words command
line_words (line.Start store command) = codes "start" ∷ letter store ∷ command_words command
line_words (line.Table table lines) = codes "table" ∷ table ∷ []
line_words (line.Export table name) = codes "export" ∷ table ∷ name ∷ []
line_words (line.DropHandle handle) = codes "drop" ∷ handle ∷ []
line_words (line.GetAt pin key) = codes "get" ∷ pin ∷ word key ∷ []
line_words (line.Unpin pin) = codes "unpin" ∷ pin ∷ []
line_words line.Objects = codes "objects" ∷ []
line_words line.Calls = codes "calls" ∷ []

-- one space between the words
abbrev pub spelled_words : List (List ℕ) → List ℕ
spelled_words words = join_with_byte 32 words

abbrev pub with_end : List ℕ → List ℕ
with_end text = text ++ 10 ∷ []

abbrev pub spelled_table_line : TableLine → List ℕ
spelled_table_line line = with_end (spelled_words (table_line_words line))

-- the lines behind the first, of a table's block
abbrev pub spelled_block : Line → List ℕ
spelled_block (line.Table table lines) = flat_map spelled_table_line lines ++ with_end (codes "end")
spelled_block line = []

abbrev pub spelled_line : Line → List ℕ
spelled_line line = with_end (spelled_words (line_words line)) ++ spelled_block line

abbrev pub spelled_script : List Line → List ℕ
spelled_script lines = flat_map spelled_line lines
