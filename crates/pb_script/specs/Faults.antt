-- Where a script's fault lies, and what a block is.
use Rattle.std.specs.Prelude.{◌≡◌, ℕ, ◌+◌, true, false, nat_le, ◌⊎◌, if◌then◌else◌, List, [], ◌∷◌, ◌++◌, length, map, Option, Some, None, IsSome, option_to_list}
use Rattle.std.specs.List.{AllByRecursion, flat_map}
use Rattle.std.specs.Option.{option_map}
use Rattle.pb_script.specs.Answers.{◌>>=◌}
use Rattle.pb_script.specs.Words.{is_skipped}
use Rattle.pb_script.specs.TableLines.{table_line_of, is_end}
use Rattle.pb_script.specs.Lines.{line_of}
use Rattle.pb_script.specs.Script.{NumberedRead, step}
use Rattle.pb_script.specs.declared.line.Line.{Line}
use Rattle.pb_script.specs.declared.line.Line.TheVariants.{Table}
use Rattle.pb_script.specs.declared.table_line.TableLine.{TableLine}
use Rattle.pb_script.specs.declared.script.Place.{Place}
use Rattle.pb_script.specs.declared.script.Place.TheVariants.{Between, Within}

-- the place behind texts, nothing where one of them says nothing where it stands
unfoldable pub place_behind : Place → List (List ℕ) → Option Place
place_behind place [] = Some place
place_behind place (text ∷ texts) = do
  next ← step place text
  place_behind next.0 texts

-- each text before this one says something where it stands, and this one says nothing there
pub record IsOffAt (place : Place) (texts : List (List ℕ)) (number : ℕ) : Type 0 where
  pub front : List (List ℕ)
  pub text : List ℕ
  pub back : List (List ℕ)
  pub there : Place
  pub texts_are : texts ≡ front ++ text ∷ back
  pub number_is : number ≡ length front + 1
  pub before : place_behind place front ≡ Some there
  pub off : step there text ≡ None

-- each text says something, and behind the last of them a block is open
pub record IsOpenAt (place : Place) (texts : List (List ℕ)) (number : ℕ) : Type 0 where
  pub table : List ℕ
  pub lines : List TableLine
  pub number_is : number ≡ length texts + 1
  pub open_there : place_behind place texts ≡ Some (Within table lines)

-- the lines of a block's texts, but for skipped ones, in order
abbrev pub table_lines_in : List (List ℕ) → List TableLine
table_lines_in texts = flat_map (λ text. if is_skipped text then [] else option_to_list (table_line_of text)) texts

-- a text of a block that doesn't end it: skipped, or a line of the table
abbrev pub IsInside : List ℕ → Type 0
IsInside text = (is_skipped text ≡ true) ⊎ ((is_skipped text ≡ false) × (is_end text ≡ false) × IsSome (table_line_of text))

-- a block among texts: the text that begins it, those within, and its end
pub record IsBlock (texts : List (List ℕ)) : Type 0 where
  pub front : List (List ℕ)
  pub first : List ℕ
  pub table : List ℕ
  pub inside : List (List ℕ)
  pub last : List ℕ
  pub back : List (List ℕ)
  pub texts_are : texts ≡ front ++ first ∷ (inside ++ last ∷ back)
  pub before : place_behind Between front ≡ Some Between
  pub begins : (is_skipped first ≡ false) × (line_of first ≡ Some (Table table []))
  pub within : AllByRecursion IsInside inside
  pub ends : (is_skipped last ≡ false) × (is_end last ≡ true)

-- a number, or one more from this one on
abbrev pub moved_number : ℕ → ℕ → ℕ
moved_number at number = if nat_le at number then number + 1 else number

abbrev pub moved_line : ℕ → ℕ × Line → ℕ × Line
moved_line at line = (moved_number at line.0, line.1)

-- the same lines and the same kind of fault, each number from this one on one greater
abbrev pub moved : ℕ → NumberedRead → NumberedRead
moved at read = record {
  lines = map (moved_line at) read.lines;
  within = option_map (moved_number at) read.within;
  fault = option_map (moved_number at) read.fault;
}
