-- The first line that isn't built, from each line on.
use Rattle.std.proofs.Common.{◌≡◌, ℕ, zero, suc, ◌+◌, ◌<◌, ◌≤◌, Bool, true, false, ◌&&◌, if◌then◌else◌, List, [], ◌∷◌, length, map, get_or, slice_get, drop, Option, Some, None, IsTrue, ◌↔◌, refl, sym, ap, ◌∙◌, arith}
use Rattle.std.specs.List.{list_all}
use Rattle.std.specs.Option.{option_or}
use Rattle.std.proofs.lemmas.Bool.{cond-true, cond-false, and_from}
use Rattle.std.proofs.lemmas.List.{length-map, length-drop}
use Rattle.std.proofs.lemmas.List.Sums.{AllPass-from_list_all}
use Rattle.pb_script.specs.Script.{NumberedRead, Lines, as_read, lines_of, numbered, without_numbers}
use Rattle.pb_script.specs.declared.command.Command.{Command}
use Rattle.pb_script.specs.declared.command.Command.TheVariants.{Set, Get}
use Rattle.pb_script.specs.declared.line.Line.{Line}
use Rattle.pb_names.specs.Grammar.{IsName}
use Rattle.pb_names.specs.Ranges.{is_name}
use Rattle.pb_script.proofs.Names.{test_is}
use Rattle.pb_script.proofs.Turns.{of_fault}
use Rattle.pebble_cli.specs.Lines.{is_built, is_built_command, first_unbuilt, fault_of}

pub length_same : (lines : List (ℕ × Line)) (place : ℕ) → place < length (without_numbers lines) → place < length lines
length_same lines place h = omega (arith, h, length-map lines (λ (line : ℕ × Line). line.1))

pub next_built : (lines : List (ℕ × Line)) (place : ℕ) (d : Line) → place < length lines
    → is_built (get_or (without_numbers lines) place d) ≡ true
    → first_unbuilt (drop place lines) ≡ first_unbuilt (drop (place + 1) lines)
next_built [] place d h built = absurd (omega (arith, h))
next_built (line ∷ lines) zero d h built = cond-true (is_built line.1) _ _ built
next_built (line ∷ lines) (suc place) d h built =
    next_built lines place d (omega (arith, h)) built
    ∙ ap (λ (n : ℕ). first_unbuilt (drop n (line ∷ lines))) (let e : suc (place + 1) ≡ suc place + 1 = omega arith in e)

pub unbuilt_at : (lines : List (ℕ × Line)) (place number : ℕ) (d : Line) → place < length lines
    → is_built (get_or (without_numbers lines) place d) ≡ false
    → slice_get (map (λ (line : ℕ × Line). line.0) lines) place ≡ Some number → first_unbuilt (drop place lines) ≡ Some number
unbuilt_at [] place number d h other is = absurd (omega (arith, h))
unbuilt_at (line ∷ lines) zero number d h other is = cond-false (is_built line.1) _ _ other ∙ is
unbuilt_at (line ∷ lines) (suc place) number d h other is = unbuilt_at lines place number d (omega (arith, h)) other is

none_of : (first rest : Option ℕ) → option_or first rest ≡ None → (first ≡ None) × (rest ≡ None)
none_of None rest is = (refl, is)
none_of (Some number) rest is = cc

pub whole_read : (script : List ℕ) (read : NumberedRead) → read ≡ numbered script → fault_of read ≡ None
    → lines_of script ≡ Lines (without_numbers read.lines)
unfolding lines_of
whole_read script read is none =
    let apart = none_of (first_unbuilt read.lines) (option_or read.within read.fault) none in
    ap as_read (sym is) ∙ ap (of_fault read.lines) (none_of read.within read.fault apart.1).1

-- ---- lines that are all built

head_built : (test : Bool) (number : ℕ) (rest : Option ℕ) → (if test then rest else Some number) ≡ None → (test ≡ true) × (rest ≡ None)
head_built true number rest is = (refl, is)
head_built false number rest is = cc

all_built : (lines : List (ℕ × Line)) → first_unbuilt lines ≡ None → list_all is_built (without_numbers lines) ≡ true
all_built [] none = refl
all_built (line ∷ lines) none =
    let is = head_built (is_built line.1) line.0 (first_unbuilt lines) none in
    and_from (is_built line.1) (list_all is_built (without_numbers lines)) is.0 (all_built lines is.1)

pub whole_built : (read : NumberedRead) → fault_of read ≡ None → list_all is_built (without_numbers read.lines) ≡ true
whole_built read none = all_built read.lines (none_of (first_unbuilt read.lines) (option_or read.within read.fault) none).0

pub line_built : (lines : List Line) (place : ℕ) (line : Line) → list_all is_built lines ≡ true → place < length lines → line ≡ get_or lines place line
    → is_built line ≡ true
line_built lines place line all within item = ap is_built item ∙ AllPass-from_list_all is_built lines all place line within

pub none_left : (lines : List Line) (place : ℕ) → length lines ≤ place → length (drop place lines) ≡ 0
none_left lines place h = omega (arith, h, length-drop place lines)

-- ---- a command that is built, by the tests of its names

pub set_built : (command : Command) (key value : List ℕ) (one two : Bool) → command ≡ Set key value → IsTrue one ↔ IsName key → IsTrue two ↔ IsName value
    → one ≡ true → two ≡ is_built_command command
set_built command key value one two is first second shown =
    test_is two value second
    ∙ sym (ap is_built_command is ∙ ap (λ (test : Bool). test && is_name value) (sym (test_is one key first) ∙ shown))

pub set_unbuilt : (command : Command) (key value : List ℕ) (one : Bool) → command ≡ Set key value → IsTrue one ↔ IsName key → one ≡ false
    → one ≡ is_built_command command
set_unbuilt command key value one is first hidden =
    hidden ∙ sym (ap is_built_command is ∙ ap (λ (test : Bool). test && is_name value) (sym (test_is one key first) ∙ hidden))

pub get_built : (command : Command) (key : List ℕ) (one : Bool) → command ≡ Get key → IsTrue one ↔ IsName key → one ≡ is_built_command command
get_built command key one is first = test_is one key first ∙ sym (ap is_built_command is)
