-- A printed script is read as its lines.
use Rattle.std.proofs.Common.{◌≡◌, ℕ, ◌+◌, Bool, true, false, ◌&&◌, List, [], ◌∷◌, ◌++◌, length, Option, Some, None, refl, sym, ap, ◌∙◌, arith, append_assoc}
use Rattle.std.specs.Prelude.{IfSome, codes, ◌==◌, not, nat_lt}
use Rattle.std.specs.List.{AllByRecursion, flat_map, list_all}
use Rattle.std.proofs.lemmas.Bool.{cond-false, and_parts}
use Rattle.std.proofs.lemmas.Bool.Decides.{nat_tests}
use Rattle.std.proofs.lemmas.List.{append-nil}
use Rattle.pb_names.specs.Grammar.{IsName}
use Rattle.pb_keys.specs.Printed.{word}
use Rattle.pb_script.specs.Answers.{◌>>=◌}
use Rattle.pb_script.specs.Texts.{texts_of}
use Rattle.pb_script.specs.Words.{is_graphic}
use Rattle.pb_script.specs.Lines.{line_of}
use Rattle.pb_script.specs.TableLines.{table_line_of, is_end, are_end}
use Rattle.pb_script.specs.Script.{ScriptRead, Lines, Fault, after_line, said, step, ended, lines_of}
use Rattle.pb_script.specs.Form.{IsString, IsCommand, IsTableLine, IsLine}
use Rattle.pb_script.specs.Spelling.{labelled, command_words, table_line_words, lane_words, line_words, spelled_words, with_end, spelled_table_line, spelled_block, spelled_line, spelled_script}
use Rattle.pb_script.specs.declared.command.Command.{Command}
use Rattle.pb_script.specs.declared.command.Command.TheVariants as command
use Rattle.pb_script.specs.declared.line.Lane.{Lane}
use Rattle.pb_script.specs.declared.line.Lane.TheVariants.{Fg, Bg}
use Rattle.pb_script.specs.declared.line.Line.{Line}
use Rattle.pb_script.specs.declared.line.Line.TheVariants as line
use Rattle.pb_script.specs.declared.table_line.TableLine.{TableLine}
use Rattle.pb_script.specs.declared.table_line.TableLine.TheVariants as table
use Rattle.pb_script.specs.declared.script.Place.{Place}
use Rattle.pb_script.specs.declared.script.Place.TheVariants.{Between, Within}
use Rattle.pb_script.proofs.ReadTexts.{behind_text, read_texts, lines_are_read}
use Rattle.pb_script.proofs.Again.{IsWord, some_length, word_is, name_is_word, letter_is_word, digit_is_word}
use Rattle.pb_script.proofs.AgainLines.{head, line_again, table_line_again, words_line, words_table_line}
use Rattle.pb_script.proofs.AgainTexts.{AreWords, words_again, texts_again, begins_otherwise, not_skipped}

names_are_words : (names : List (List ℕ)) → AllByRecursion IsName names → AreWords names
names_are_words [] are = tt
names_are_words (name ∷ names) are = (name_is_word name are.0, names_are_words names are.1)

longer : (one two : Bool) → two ≡ true → one ≡ true → (one && two) ≡ true
longer one two also is = rw (is, also) refl

prefix_word : (bytes : List ℕ) → IsWord bytes → IsWord (codes "prefix=" ++ bytes)
prefix_word bytes is = longer (nat_lt 0 (length (codes "prefix=" ++ bytes))) _ (and_parts (nat_lt 0 (length bytes)) (list_all is_graphic bytes) is).1 (some_length 112 (codes "refix=" ++ bytes))

suffix_word : (bytes : List ℕ) → IsWord bytes → IsWord (codes "suffix=" ++ bytes)
suffix_word bytes is = longer (nat_lt 0 (length (codes "suffix=" ++ bytes))) _ (and_parts (nat_lt 0 (length bytes)) (list_all is_graphic bytes) is).1 (some_length 115 (codes "uffix=" ++ bytes))

labelled_prefix : (bytes : List ℕ) → IsString bytes → IsWord (codes "prefix=" ++ word bytes)
labelled_prefix bytes is = prefix_word (word bytes) (word_is bytes is)

labelled_suffix : (bytes : List ℕ) → IsString bytes → IsWord (codes "suffix=" ++ word bytes)
labelled_suffix bytes is = suffix_word (word bytes) (word_is bytes is)

labels_are_words : (prefix suffix : Option (List ℕ)) → IfSome prefix IsString → IfSome suffix IsString → AreWords (labelled (codes "prefix=") prefix ++ labelled (codes "suffix=") suffix)
labels_are_words None None one other = tt
labels_are_words None (Some suffix) one other = (labelled_suffix suffix other, tt)
labels_are_words (Some prefix) None one other = (labelled_prefix prefix one, tt)
labels_are_words (Some prefix) (Some suffix) one other = (labelled_prefix prefix one, (labelled_suffix suffix other, tt))

command_are_words : (c : Command) → IsCommand c → AreWords (command_words c)
command_are_words (command.Set key value) is = (refl, (word_is key is.0, (word_is value is.1, tt)))
command_are_words (command.Del key) is = (refl, (word_is key is, tt))
command_are_words (command.DelRange lo hi) is = (refl, (word_is lo is.0, (word_is hi is.1, tt)))
command_are_words (command.Get key) is = (refl, (word_is key is, tt))
command_are_words (command.Scan lo hi) is = (refl, (word_is lo is.0, (word_is hi is.1, tt)))
command_are_words command.Flush is = (refl, tt)
command_are_words (command.Compact level lo hi) is = (refl, (digit_is_word level is.0, (word_is lo is.1, (word_is hi is.2, tt))))
command_are_words command.Release is = (refl, tt)
command_are_words (command.Ingest tables) is = (refl, names_are_words tables is.1)
command_are_words (command.Excise lo hi) is = (refl, (word_is lo is.0, (word_is hi is.1, tt)))
command_are_words (command.IngestExcise c) is = (refl, (word_is c.lo is.0, (word_is c.hi is.1, names_are_words c.tables is.2.1)))
command_are_words (command.External c) is = (refl, (name_is_word c.name is.0, (word_is c.lo is.1, (word_is c.hi is.2, labels_are_words c.prefix c.suffix is.3 is.4))))
command_are_words (command.Lend c) is = (refl, (word_is c.lo is.0, (word_is c.hi is.1, (refl, (name_is_word c.handle is.2, tt)))))
command_are_words (command.Receive handle) is = (refl, (name_is_word handle is, tt))
command_are_words (command.Pin pin) is = (refl, (refl, (name_is_word pin is, tt)))

table_line_are_words : (l : TableLine) → IsTableLine l → AreWords (table_line_words l)
table_line_are_words (table.Set key value) is = (refl, (word_is key is.0, (word_is value is.1, tt)))
table_line_are_words (table.Del key) is = (refl, (word_is key is, tt))
table_line_are_words (table.DelRange lo hi) is = (refl, (word_is lo is.0, (word_is hi is.1, tt)))

lane_are_words : (lane : Lane) → AreWords (lane_words lane)
lane_are_words Fg = tt
lane_are_words Bg = (refl, tt)

line_are_words : (l : Line) → IsLine l → AreWords (line_words l)
line_are_words (line.Open store) is = (refl, (letter_is_word store is, tt))
line_are_words (line.Close store) is = (refl, (letter_is_word store is, tt))
line_are_words (line.Stop store) is = (refl, (letter_is_word store is, tt))
line_are_words (line.Turn store lane) is = (refl, (letter_is_word store is, lane_are_words lane))
line_are_words (line.Levels store) is = (refl, (letter_is_word store is, tt))
line_are_words (line.Whole store c) is = (letter_is_word store is.0, command_are_words c is.1)
line_are_words (line.Start store c) is = (refl, (letter_is_word store is.0, command_are_words c is.1))
line_are_words (line.Table table lines) is = (refl, (name_is_word table is.0, tt))
line_are_words (line.Export table name) is = (refl, (name_is_word table is.0, (name_is_word name is.1, tt)))
line_are_words (line.DropHandle handle) is = (refl, (name_is_word handle is, tt))
line_are_words (line.GetAt pin key) is = (refl, (name_is_word pin is.0, (word_is key is.1, tt)))
line_are_words (line.Unpin pin) is = (refl, (name_is_word pin is, tt))
line_are_words line.Objects is = (refl, tt)
line_are_words line.Calls is = (refl, tt)

letter_otherwise : (store : ℕ) → not (64 + store == 35) ≡ true
letter_otherwise store = grind (arith, nat_tests)

line_otherwise : (l : Line) → begins_otherwise (line_words l) ≡ true
line_otherwise (line.Open store) = refl
line_otherwise (line.Close store) = refl
line_otherwise (line.Stop store) = refl
line_otherwise (line.Turn store lane) = refl
line_otherwise (line.Levels store) = refl
line_otherwise (line.Whole store c) = letter_otherwise store
line_otherwise (line.Start store c) = refl
line_otherwise (line.Table table lines) = refl
line_otherwise (line.Export table name) = refl
line_otherwise (line.DropHandle handle) = refl
line_otherwise (line.GetAt pin key) = refl
line_otherwise (line.Unpin pin) = refl
line_otherwise line.Objects = refl
line_otherwise line.Calls = refl

table_line_otherwise : (l : TableLine) → begins_otherwise (table_line_words l) ≡ true
table_line_otherwise (table.Set key value) = refl
table_line_otherwise (table.Del key) = refl
table_line_otherwise (table.DelRange lo hi) = refl

table_line_no_end : (l : TableLine) → are_end (table_line_words l) ≡ false
table_line_no_end (table.Set key value) = refl
table_line_no_end (table.Del key) = refl
table_line_no_end (table.DelRange lo hi) = refl

-- the line that a printed line's first text says
pub line_read : (l : Line) → IsLine l → line_of (spelled_words (line_words l)) ≡ Some (head l)
unfolding line_of
line_read l is = ap words_line (words_again (line_words l) (line_are_words l is)) ∙ line_again l is

step_line : (l : Line) → IsLine l → step Between (spelled_words (line_words l)) ≡ Some (after_line (head l))
unfolding step said
step_line l is =
    cond-false _ _ _ (not_skipped (line_words l) (line_are_words l is) (line_otherwise l)) ∙ ap (λ (r : Option Line). r >>= λ line. Some (after_line line)) (line_read l is)

table_line_read : (l : TableLine) → IsTableLine l → table_line_of (spelled_words (table_line_words l)) ≡ Some l
unfolding table_line_of
table_line_read l is = ap words_table_line (words_again (table_line_words l) (table_line_are_words l is)) ∙ table_line_again l is

end_read : (l : TableLine) → IsTableLine l → is_end (spelled_words (table_line_words l)) ≡ false
unfolding is_end
end_read l is = ap are_end (words_again (table_line_words l) (table_line_are_words l is)) ∙ table_line_no_end l

step_table_line : (name : List ℕ) (front : List TableLine) (l : TableLine) → IsTableLine l → step (Within name front) (spelled_words (table_line_words l)) ≡ Some (Within name (front ++ l ∷ []), None)
unfolding step said
step_table_line name front l is =
    cond-false _ _ _ (not_skipped (table_line_words l) (table_line_are_words l is) (table_line_otherwise l))
    ∙ cond-false _ _ _ (end_read l is)
    ∙ ap (λ (r : Option TableLine). r >>= λ line. Some (Within name (front ++ line ∷ []), None)) (table_line_read l is)

step_end : (name : List ℕ) (front : List TableLine) → step (Within name front) (codes "end") ≡ Some (Between, Some (line.Table name front))
unfolding step said is_end
step_end name front = refl

abbrev read_next : Option (Place × Option Line) → List (List ℕ) → ScriptRead
read_next next texts = elim next [ None ↦ Fault 1 | Some n ↦ behind_text n.1 (read_texts n.0 texts) ]

read_step : (place : Place) (text : List ℕ) (texts : List (List ℕ)) (next : Place × Option Line) (more : List Line)
    → step place text ≡ Some next → read_texts next.0 texts ≡ Lines more → read_texts place (text ∷ texts) ≡ Lines (ended next.1 ++ more)
unfolding read_texts
read_step place text texts next more is behind = ap (λ (n : Option (Place × Option Line)). read_next n texts) is ∙ ap (behind_text next.1) behind

block_again : (name : List ℕ) (lines front : List TableLine) (rest : List ℕ) (more : List Line) → AllByRecursion IsTableLine lines → read_texts Between (texts_of rest) ≡ Lines more
    → read_texts (Within name front) (texts_of ((flat_map spelled_table_line lines ++ with_end (codes "end")) ++ rest)) ≡ Lines (line.Table name (front ++ lines) ∷ more)
block_again name [] front rest more are behind =
    ap (read_texts (Within name front)) (texts_again (codes "end" ∷ []) rest (refl, tt))
    ∙ read_step (Within name front) (codes "end") (texts_of rest) (Between, Some (line.Table name front)) more (step_end name front) behind
    ∙ ap (λ (ls : List TableLine). Lines (line.Table name ls ∷ more)) (sym (append-nil front))
block_again name (l ∷ lines) front rest more are behind =
    let words = table_line_words l in
    let left = (flat_map spelled_table_line lines ++ with_end (codes "end")) ++ rest in
    let regrouped : (flat_map spelled_table_line (l ∷ lines) ++ with_end (codes "end")) ++ rest ≡ with_end (spelled_words words) ++ left =
    ap (λ (t : List ℕ). t ++ rest) (append_assoc (with_end (spelled_words words)) (flat_map spelled_table_line lines) (with_end (codes "end")))
    ∙ append_assoc (with_end (spelled_words words)) (flat_map spelled_table_line lines ++ with_end (codes "end")) rest in
    ap (λ (t : List ℕ). read_texts (Within name front) (texts_of t)) regrouped
    ∙ ap (read_texts (Within name front)) (texts_again words left (table_line_are_words l are.0))
    ∙ read_step (Within name front) (spelled_words words) (texts_of left) (Within name (front ++ l ∷ []), None) (line.Table name ((front ++ l ∷ []) ++ lines) ∷ more)
    (step_table_line name front l are.0) (block_again name lines (front ++ l ∷ []) rest more are.1 behind)
    ∙ ap (λ (ls : List TableLine). Lines (line.Table name ls ∷ more)) (append_assoc front (l ∷ []) lines)

-- the first text of a line, and what is behind it
first_again : (l : Line) (rest : List ℕ) (next : Place × Option Line) (more : List Line) → IsLine l → after_line (head l) ≡ next
    → read_texts next.0 (texts_of (spelled_block l ++ rest)) ≡ Lines more → read_texts Between (texts_of (spelled_line l ++ rest)) ≡ Lines (ended next.1 ++ more)
first_again l rest next more is same behind =
    let words = line_words l in
    ap (λ (t : List ℕ). read_texts Between (texts_of t)) (append_assoc (with_end (spelled_words words)) (spelled_block l) rest)
    ∙ ap (read_texts Between) (texts_again words (spelled_block l ++ rest) (line_are_words l is))
    ∙ read_step Between (spelled_words words) (texts_of (spelled_block l ++ rest)) next more (step_line l is ∙ ap (λ (n : Place × Option Line). Some n) same) behind

next_again : (l : Line) (rest : List ℕ) (more : List Line) → IsLine l → read_texts Between (texts_of rest) ≡ Lines more → read_texts Between (texts_of (spelled_line l ++ rest)) ≡ Lines (l ∷ more)
next_again (line.Open store) rest more is behind = first_again (line.Open store) rest (Between, Some (line.Open store)) more is refl behind
next_again (line.Close store) rest more is behind = first_again (line.Close store) rest (Between, Some (line.Close store)) more is refl behind
next_again (line.Stop store) rest more is behind = first_again (line.Stop store) rest (Between, Some (line.Stop store)) more is refl behind
next_again (line.Turn store lane) rest more is behind = first_again (line.Turn store lane) rest (Between, Some (line.Turn store lane)) more is refl behind
next_again (line.Levels store) rest more is behind = first_again (line.Levels store) rest (Between, Some (line.Levels store)) more is refl behind
next_again (line.Whole store c) rest more is behind = first_again (line.Whole store c) rest (Between, Some (line.Whole store c)) more is refl behind
next_again (line.Start store c) rest more is behind = first_again (line.Start store c) rest (Between, Some (line.Start store c)) more is refl behind
next_again (line.Table name lines) rest more is behind =
    first_again (line.Table name lines) rest (Within name [], None) (line.Table name lines ∷ more) is refl (block_again name lines [] rest more is.1 behind)
next_again (line.Export table name) rest more is behind = first_again (line.Export table name) rest (Between, Some (line.Export table name)) more is refl behind
next_again (line.DropHandle handle) rest more is behind = first_again (line.DropHandle handle) rest (Between, Some (line.DropHandle handle)) more is refl behind
next_again (line.GetAt pin key) rest more is behind = first_again (line.GetAt pin key) rest (Between, Some (line.GetAt pin key)) more is refl behind
next_again (line.Unpin pin) rest more is behind = first_again (line.Unpin pin) rest (Between, Some (line.Unpin pin)) more is refl behind
next_again line.Objects rest more is behind = first_again line.Objects rest (Between, Some line.Objects) more is refl behind
next_again line.Calls rest more is behind = first_again line.Calls rest (Between, Some line.Calls) more is refl behind

lines_from : (lines : List Line) → AllByRecursion IsLine lines → read_texts Between (texts_of (spelled_script lines)) ≡ Lines lines
unfolding read_texts
lines_from [] are = refl
lines_from (l ∷ lines) are = next_again l (spelled_script lines) lines are.0 (lines_from lines are.1)

pub lines_again : (lines : List Line) → AllByRecursion IsLine lines → lines_of (spelled_script lines) ≡ Lines lines
lines_again lines are = lines_are_read (spelled_script lines) ∙ lines_from lines are
