-- Each line of a script without a fault is in form.
use Rattle.std.proofs.Common.{◌≡◌, ℕ, List, [], ◌∷◌, ◌++◌, Option, Some, None, sym, ◌∙◌, subst}
use Rattle.std.specs.Prelude.{IfSome}
use Rattle.std.specs.List.{AllByRecursion}
use Rattle.pb_names.specs.Grammar.{IsName}
use Rattle.pb_script.specs.Texts.{texts_of}
use Rattle.pb_script.specs.Words.{is_skipped}
use Rattle.pb_script.specs.Lines.{line_of}
use Rattle.pb_script.specs.TableLines.{table_line_of, is_end}
use Rattle.pb_script.specs.Script.{ScriptRead, Lines, Fault, after_line, said, step, lines_of}
use Rattle.pb_script.specs.Form.{IsTableLine, IsLine}
use Rattle.pb_script.specs.declared.line.Line.{Line}
use Rattle.pb_script.specs.declared.line.Line.TheVariants.{Open, Close, Stop, Turn, Levels, Whole, Start, Table, Export, DropHandle, GetAt, Unpin, Objects, Calls}
use Rattle.pb_script.specs.declared.table_line.TableLine.{TableLine}
use Rattle.pb_script.specs.declared.script.Place.{Place}
use Rattle.pb_script.specs.declared.script.Place.TheVariants.{Between, Within}
use Rattle.pb_script.proofs.Formed.{bind_if, cond_if}
use Rattle.pb_script.proofs.ReadTexts.{behind_text, last_read, read_texts, lines_are_read}
use Rattle.pb_script.proofs.FormedLines.{line_in, table_line_in}

abbrev IsPlace : Place → Type 0
IsPlace Between = Unit {0}
IsPlace (Within table lines) = IsName table × AllByRecursion IsTableLine lines

abbrev IsNext : Place × Option Line → Type 0
IsNext next = IsPlace next.0 × IfSome next.1 IsLine

abbrev AreRead : ScriptRead → Type 0
AreRead (Lines lines) = AllByRecursion IsLine lines
AreRead (Fault number) = Unit {0}

pushed : (lines : List TableLine) (line : TableLine) → AllByRecursion IsTableLine lines → IsTableLine line → AllByRecursion IsTableLine (lines ++ line ∷ [])
pushed [] line all one = (one, tt)
pushed (first ∷ lines) line all one = (all.0, pushed lines line all.1 one)

after_in : (line : Line) → IsLine line → IsNext (after_line line)
after_in (Open store) is = (tt, is)
after_in (Close store) is = (tt, is)
after_in (Stop store) is = (tt, is)
after_in (Turn store lane) is = (tt, is)
after_in (Levels store) is = (tt, is)
after_in (Whole store command) is = (tt, is)
after_in (Start store command) is = (tt, is)
after_in (Table table lines) is = (is, tt)
after_in (Export table name) is = (tt, is)
after_in (DropHandle handle) is = (tt, is)
after_in (GetAt pin key) is = (tt, is)
after_in (Unpin pin) is = (tt, is)
after_in Objects is = (tt, is)
after_in Calls is = (tt, is)

said_in : (place : Place) (text : List ℕ) → IsPlace place → IfSome (said place text) IsNext
unfolding said
said_in Between text is = bind_if IsLine IsNext (line_of text) _ (line_in text) after_in
said_in (Within table lines) text is =
    cond_if IsNext (is_end text) _ _ (tt, is) (bind_if IsTableLine IsNext (table_line_of text) _ (table_line_in text) (λ line p. ((is.0, pushed lines line is.1 p), tt)))

step_in : (place : Place) (text : List ℕ) → IsPlace place → IfSome (step place text) IsNext
unfolding step
step_in place text is = cond_if IsNext (is_skipped text) _ _ (is, tt) (said_in place text is)

behind_in : (line : Option Line) (read : ScriptRead) → IfSome line IsLine → AreRead read → AreRead (behind_text line read)
behind_in None (Lines lines) one more = more
behind_in (Some line) (Lines lines) one more = (one, more)
behind_in line (Fault number) one more = tt

last_in : (place : Place) → AreRead (last_read place)
last_in Between = tt
last_in (Within table lines) = tt

abbrev read_next : Option (Place × Option Line) → List (List ℕ) → ScriptRead
read_next next texts = elim next [ None ↦ Fault 1 | Some n ↦ behind_text n.1 (read_texts n.0 texts) ]

next_in : (next : Option (Place × Option Line)) (texts : List (List ℕ)) → IfSome next IsNext → ((place : Place) → IsPlace place → AreRead (read_texts place texts)) → AreRead (read_next next texts)
next_in None texts is more = tt
next_in (Some n) texts is more = behind_in n.1 (read_texts n.0 texts) is.1 (more n.0 is.0)

texts_in : (texts : List (List ℕ)) (place : Place) → IsPlace place → AreRead (read_texts place texts)
unfolding read_texts
texts_in [] place is = last_in place
texts_in (text ∷ texts) place is = next_in (step place text) texts (step_in place text is) (texts_in texts)

pub lines_in : (script : List ℕ) (lines : List Line) → lines_of script ≡ Lines lines → AllByRecursion IsLine lines
lines_in script lines is = subst AreRead (sym (lines_are_read script) ∙ is) (texts_in (texts_of script) Between tt)
