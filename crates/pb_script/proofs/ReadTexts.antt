-- A script read without numbers, with faults counted from each text.
use Rattle.std.proofs.Common.{◌≡◌, ℕ, ◌+◌, List, [], ◌∷◌, ◌++◌, Option, Some, None, refl, ap, ◌∙◌, arith}
use Rattle.pb_script.specs.Texts.{texts_of}
use Rattle.pb_script.specs.Script.{ScriptRead, Lines, Fault, step, ended, ended_as, first_number, fault_at, behind_lines, numbered_from, numbered, as_read, lines_of}
use Rattle.pb_script.specs.declared.line.Line.{Line}
use Rattle.pb_script.specs.declared.script.Place.{Place}
use Rattle.pb_script.specs.declared.script.Place.TheVariants.{Between, Within}

-- what the texts behind a text say, with the line that this one ends before it, and with faults counted from this one
abbrev pub behind_text : Option Line → ScriptRead → ScriptRead
behind_text line (Lines lines) = Lines (ended line ++ lines)
behind_text line (Fault number) = Fault (number + 1)

abbrev pub last_read : Place → ScriptRead
last_read Between = Lines []
last_read (Within table lines) = Fault 1

unfoldable pub read_texts : Place → List (List ℕ) → ScriptRead
read_texts place [] = last_read place
read_texts place (text ∷ texts) =
    elim (step place text) [
      | None ↦ Fault 1
      | Some next ↦ behind_text next.1 (read_texts next.0 texts)
    ]

-- the same with so many texts before it
abbrev pub counted_on : ℕ → ScriptRead → ScriptRead
counted_on count (Lines lines) = Lines lines
counted_on count (Fault number) = Fault (count + number)

abbrev lines_before : Option Line → ScriptRead → ScriptRead
lines_before line (Lines lines) = Lines (ended line ++ lines)
lines_before line (Fault number) = Fault number

by_fault : (number : ℕ) (line : Option Line) (lines : List (ℕ × Line)) (within fault : Option ℕ)
    → as_read (behind_lines (ended_as number line) (record { lines = lines; within = within; fault = fault }))
    ≡ lines_before line (as_read (record { lines = lines; within = within; fault = fault }))
by_fault number None lines within None = refl
by_fault number (Some line) lines within None = refl
by_fault number line lines within (Some fault) = refl

counted_next : (count : ℕ) (line : Option Line) (read : ScriptRead)
    → lines_before line (counted_on (count + 1) read) ≡ counted_on count (behind_text line read)
counted_next count line (Lines lines) = refl
counted_next count line (Fault number) = ap (λ (n : ℕ). Fault n) (omega arith)

by_step : (next : Option (Place × Option Line)) (texts : List (List ℕ)) (place : Place) (block count : ℕ)
    → ((p : Place) (b c : ℕ) → as_read (numbered_from p b (c + 1) texts) ≡ counted_on c (read_texts p texts))
    → as_read (elim next [
      | None ↦ fault_at place block (count + 1)
      | Some n ↦
          behind_lines (ended_as (first_number place block (count + 1)) n.1)
          (numbered_from n.0 (first_number place block (count + 1)) (count + 1 + 1) texts)
    ]) ≡ counted_on count (elim next [ None ↦ Fault 1 | Some n ↦ behind_text n.1 (read_texts n.0 texts) ])
by_step None texts place block count rest = refl
by_step (Some next) texts place block count rest =
    let first = first_number place block (count + 1) in
    let read = numbered_from next.0 first (count + 1 + 1) texts in
    by_fault first next.1 read.lines read.within read.fault
    ∙ ap (lines_before next.1) (rest next.0 first (count + 1))
    ∙ counted_next count next.1 (read_texts next.0 texts)

same_from : (texts : List (List ℕ)) (place : Place) (block count : ℕ)
    → as_read (numbered_from place block (count + 1) texts) ≡ counted_on count (read_texts place texts)
unfolding numbered_from read_texts
same_from [] Between block count = refl
same_from [] (Within table lines) block count = refl
same_from (text ∷ texts) place block count = by_step (step place text) texts place block count (same_from texts)

counted_none : (read : ScriptRead) → counted_on 0 read ≡ read
counted_none (Lines lines) = refl
counted_none (Fault number) = ap (λ (n : ℕ). Fault n) (omega arith)

pub lines_are_read : (script : List ℕ) → lines_of script ≡ read_texts Between (texts_of script)
unfolding lines_of numbered
lines_are_read script = same_from (texts_of script) Between 0 0 ∙ counted_none (read_texts Between (texts_of script))
