-- The definitions, computed on worked examples.
use Rattle.std.proofs.Common.{◌≡◌, [], ◌∷◌, ◌++◌, refl, Some, None}
use Rattle.std.specs.Prelude.{codes}
use Rattle.pb_script.specs.Strings.{bytes_of, string_of}
use Rattle.pb_script.specs.Fields.{word_at, string_at, name_at, store_at, level_at, pair_at, behind, at_end, labelled_at}
use Rattle.pb_script.specs.Commands.{set_of, get_of, compact_of, external_of, command_of, command_named, tables_named, sharing_named}
use Rattle.pb_script.specs.Lines.{store_alone, name_alone, open_of, turn_of, lane_of, start_of, whole_named, table_of, family_line, line_named, line_of}
use Rattle.pb_script.specs.TableLines.{table_set_of, table_line_named, table_line_of, is_end}
use Rattle.pb_script.specs.Script.{Lines, Fault, said, step, numbered_from, numbered, lines_of}
use Rattle.pb_script.specs.Texts.{texts_of}
use Rattle.pb_script.specs.Words.{words_of}
use Rattle.pb_script.specs.declared.command.Command.TheVariants as command
use Rattle.pb_script.specs.declared.line.Line.TheVariants as line
use Rattle.pb_script.specs.declared.table_line.TableLine.TheVariants as table

-- a CR at the end without an LF stays
texts_of-two : texts_of (codes "a" ++ 13 ∷ 10 ∷ 98 ∷ 13 ∷ []) ≡ codes "a" ∷ (98 ∷ 13 ∷ []) ∷ []
texts_of-two = refl

words_of-spaced : words_of (codes "  A  set k ") ≡ codes "A" ∷ codes "set" ∷ codes "k" ∷ []
words_of-spaced = refl

string_of-empty : string_of (codes "%") ≡ Some []
unfolding string_of bytes_of
string_of-empty = refl

string_of-coded : string_of (codes "a%0aB%Ff") ≡ Some (97 ∷ 10 ∷ 66 ∷ 255 ∷ [])
unfolding string_of bytes_of
string_of-coded = refl

-- a `%` without two digits
string_of-cut : string_of (codes "a%4") ≡ None
unfolding string_of bytes_of
string_of-cut = refl

string_of-off : string_of (codes "%g0") ≡ None
unfolding string_of bytes_of
string_of-off = refl

set_line : line_of (codes "A set k %") ≡ Some (line.Whole 1 (command.Set (codes "k") []))
unfolding line_of line_named family_line whole_named command_of command_named set_of word_at pair_at string_at at_end string_of bytes_of
set_line = refl

-- levels end at 5
level_6 : line_of (codes "A compact 6 a b") ≡ None
unfolding line_of line_named family_line whole_named command_of command_named tables_named compact_of word_at level_at
level_6 = refl

-- turns carry no `get` on
start_get : line_of (codes "start A get k") ≡ None
unfolding line_of line_named start_of command_of command_named get_of word_at store_at string_at at_end string_of bytes_of
start_get = refl

turn_bg : line_of (codes "turn H bg") ≡ Some (line.Turn 8 Rattle.pb_script.specs.declared.line.Lane.TheVariants.Bg)
unfolding line_of line_named turn_of lane_of word_at store_at behind at_end
turn_bg = refl

-- a suffix alone, and no prefix behind it
suffix_alone : line_of (codes "B external e a b suffix=%40") ≡ Some (line.Whole 2 (command.External (record { name = codes "e"; lo = codes "a"; hi = codes "b"; prefix = None; suffix = Some (codes "@") })))
unfolding line_of line_named family_line whole_named command_of command_named tables_named sharing_named external_of word_at name_at pair_at string_at labelled_at at_end string_of bytes_of
suffix_alone = refl

-- the block is one line; what is skipped within says nothing
block : lines_of (codes "table t\n# x\n\nset k v\nend\n") ≡ Lines (line.Table (codes "t") (table.Set (codes "k") (codes "v") ∷ []) ∷ [])
unfolding lines_of numbered numbered_from step said line_of line_named family_line table_of name_alone word_at name_at pair_at string_at at_end string_of bytes_of is_end table_line_of table_line_named table_set_of
block = refl

-- a block without its end is a fault behind the last line
no_end : lines_of (codes "table t\nset k v") ≡ Fault 3
unfolding lines_of numbered numbered_from step said line_of line_named family_line table_of name_alone word_at name_at pair_at string_at at_end string_of bytes_of is_end table_line_of table_line_named table_set_of
no_end = refl

second_line : lines_of (codes "open A\r\nA get " ++ 127 ∷ 10 ∷ []) ≡ Fault 2
unfolding lines_of numbered numbered_from step said line_of line_named family_line whole_named open_of store_alone store_at word_at at_end command_of command_named get_of string_at string_of bytes_of
second_line = refl
