-- What the words of a printed command, line and line of a block say.
use Rattle.std.proofs.Common.{◌≡◌, ℕ, ◌+◌, List, [], ◌∷◌, ◌++◌, Option, Some, refl, ◌∙◌}
use Rattle.std.specs.Prelude.{codes}
use Rattle.std.proofs.lemmas.Bool.{cond-true}
use Rattle.pb_names.specs.Grammar.{IsName}
use Rattle.pb_names.specs.Identity.{IsStore}
use Rattle.pb_keys.specs.Printed.{word}
use Rattle.pb_script.specs.Answers.{◌>>=◌}
use Rattle.pb_script.specs.Fields.{word_at, behind, at_end}
use Rattle.pb_script.specs.Commands.{set_of, del_of, del_range_of, get_of, scan_of, flush_of, compact_of, release_of, ingest_of, excise_of, ingest_excise_of, external_of, lend_of, receive_of, pin_of, sharing_named, tables_named, command_named, command_of}
use Rattle.pb_script.specs.Lines.{store_alone, name_alone, open_of, close_of, stop_of, levels_of, lane_of, turn_of, start_of, whole_named, table_of, export_of, drop_of, get_at_of, unpin_of, objects_of, calls_of, family_line, line_named}
use Rattle.pb_script.specs.TableLines.{table_set_of, table_del_of, table_del_range_of, table_line_named}
use Rattle.pb_script.specs.Form.{IsCommand, IsTableLine, IsLine}
use Rattle.pb_script.specs.Spelling.{letter, labelled, command_words, table_line_words, lane_words, line_words}
use Rattle.pb_script.specs.declared.command.Command.{Command}
use Rattle.pb_script.specs.declared.command.Command.TheVariants as command
use Rattle.pb_script.specs.declared.line.Lane.{Lane}
use Rattle.pb_script.specs.declared.line.Lane.TheVariants.{Fg, Bg}
use Rattle.pb_script.specs.declared.line.Line.{Line}
use Rattle.pb_script.specs.declared.line.Line.TheVariants as line
use Rattle.pb_script.specs.declared.table_line.TableLine.{TableLine}
use Rattle.pb_script.specs.declared.table_line.TableLine.TheVariants as table
use Rattle.pb_script.proofs.Letters.{byte_line}
use Rattle.pb_script.proofs.Again.{string_at-again, pair_at-again, name_at-again, store_again, store_at-again, level_at-again, some_names_again, both_labels, last_label}

command_again : (c : Command) → IsCommand c → command_of (command_words c) ≡ Some c
unfolding command_of word_at command_named tables_named sharing_named set_of del_of del_range_of get_of scan_of flush_of compact_of release_of ingest_of excise_of ingest_excise_of external_of lend_of receive_of pin_of behind at_end
command_again (command.Set key value) is = rw (pair_at-again key value [] is.0 is.1) refl
command_again (command.Del key) is = rw (string_at-again key [] is) refl
command_again (command.DelRange lo hi) is = rw (pair_at-again lo hi [] is.0 is.1) refl
command_again (command.Get key) is = rw (string_at-again key [] is) refl
command_again (command.Scan lo hi) is = rw (pair_at-again lo hi [] is.0 is.1) refl
command_again command.Flush is = refl
command_again (command.Compact level lo hi) is = rw (level_at-again level (word lo ∷ word hi ∷ []) is.0, pair_at-again lo hi [] is.1 is.2) refl
command_again command.Release is = refl
command_again (command.Ingest tables) is = rw (some_names_again tables is) refl
command_again (command.Excise lo hi) is = rw (pair_at-again lo hi [] is.0 is.1) refl
command_again (command.IngestExcise c) is = rw (pair_at-again c.lo c.hi c.tables is.0 is.1, some_names_again c.tables is.2) refl
command_again (command.External c) is =
    rw (
      name_at-again c.name (word c.lo ∷ word c.hi ∷ (labelled (codes "prefix=") c.prefix ++ labelled (codes "suffix=") c.suffix)) is.0,
      pair_at-again c.lo c.hi (labelled (codes "prefix=") c.prefix ++ labelled (codes "suffix=") c.suffix) is.1 is.2,
      both_labels c.prefix c.suffix is.3 is.4,
      last_label c.suffix is.4,
    ) refl
command_again (command.Lend c) is = rw (pair_at-again c.lo c.hi (codes "as" ∷ c.handle ∷ []) is.0 is.1, name_at-again c.handle [] is.2) refl
command_again (command.Receive handle) is = rw (name_at-again handle [] is) refl
command_again (command.Pin pin) is = rw (name_at-again pin [] is) refl

-- what words say that stand in a line
abbrev pub words_line : List (List ℕ) → Option Line
words_line words = word_at words >>= λ first. line_named first.0 first.1

abbrev pub words_table_line : List (List ℕ) → Option TableLine
words_table_line words = word_at words >>= λ name. table_line_named name.0 name.1

pub table_line_again : (l : TableLine) → IsTableLine l → words_table_line (table_line_words l) ≡ Some l
unfolding word_at table_line_named table_set_of table_del_of table_del_range_of at_end
table_line_again (table.Set key value) is = rw (pair_at-again key value [] is.0 is.1) refl
table_line_again (table.Del key) is = rw (string_at-again key [] is) refl
table_line_again (table.DelRange lo hi) is = rw (pair_at-again lo hi [] is.0 is.1) refl

store_alone-again : (store : ℕ) → IsStore store → store_alone (letter store ∷ []) ≡ Some store
unfolding store_alone at_end
store_alone-again store is = rw (store_at-again store [] is) refl

name_alone-again : (name : List ℕ) → IsName name → name_alone (name ∷ []) ≡ Some name
unfolding name_alone at_end
name_alone-again name is = rw (name_at-again name [] is) refl

lane_again : (lane : Lane) → lane_of (lane_words lane) ≡ Some lane
unfolding lane_of behind word_at at_end
lane_again Fg = refl
lane_again Bg = refl

whole_again : (store : ℕ) (c : Command) → IsStore store × IsCommand c → words_line (letter store ∷ command_words c) ≡ Some (line.Whole store c)
unfolding word_at whole_named
whole_again store c is = byte_line (64 + store) (command_words c) ∙ rw (store_again store is.0, command_again c is.1) refl

-- the line that a printed line's first text says: of a table, a table without lines
abbrev pub head : Line → Line
head (line.Table table lines) = line.Table table []
head l = l

pub line_again : (l : Line) → IsLine l → words_line (line_words l) ≡ Some (head l)
unfolding word_at line_named family_line open_of close_of stop_of turn_of levels_of start_of table_of export_of drop_of get_at_of unpin_of objects_of calls_of at_end
line_again (line.Open store) is = rw (store_alone-again store is) refl
line_again (line.Close store) is = rw (store_alone-again store is) refl
line_again (line.Stop store) is = rw (store_alone-again store is) refl
line_again (line.Turn store lane) is = rw (store_at-again store (lane_words lane) is, lane_again lane) refl
line_again (line.Levels store) is = rw (store_alone-again store is) refl
line_again (line.Whole store c) is = whole_again store c is
line_again (line.Start store c) is = rw (store_at-again store (command_words c) is.0, command_again c is.1) (cond-true _ _ _ is.2)
line_again (line.Table table lines) is = rw (name_alone-again table is.0) refl
line_again (line.Export table name) is = rw (name_at-again table (name ∷ []) is.0, name_alone-again name is.1) refl
line_again (line.DropHandle handle) is = rw (name_alone-again handle is) refl
line_again (line.GetAt pin key) is = rw (name_at-again pin (word key ∷ []) is.0, string_at-again key [] is.1) refl
line_again (line.Unpin pin) is = rw (name_alone-again pin is) refl
line_again line.Objects is = refl
line_again line.Calls is = refl
