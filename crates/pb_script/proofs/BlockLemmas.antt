-- A block is one line.
use Rattle.std.proofs.Common.{◌≡◌, ℕ, ◌+◌, true, false, List, [], ◌∷◌, ◌++◌, length, Option, Some, None, IsSome, option_to_list, refl, sym, ap, ap₂, ◌∙◌, append_assoc, append-nil, arith, inl, inr}
use Rattle.std.specs.List.{AllByRecursion}
use Rattle.std.proofs.lemmas.Bool.{cond-true, cond-false}
use Rattle.pb_script.specs.Answers.{◌>>=◌}
use Rattle.pb_script.specs.Texts.{texts_of}
use Rattle.pb_script.specs.Words.{is_skipped}
use Rattle.pb_script.specs.TableLines.{table_line_of, is_end}
use Rattle.pb_script.specs.Faults.{place_behind, table_lines_in, IsBlock, IsInside}
use Rattle.pb_script.specs.Script.{NumberedRead, said, step, after_line, ended_as, first_number, behind_lines, fault_at, numbered_from, numbered}
use Rattle.pb_script.specs.Lines.{line_of}
use Rattle.pb_script.specs.declared.line.Line.{Line}
use Rattle.pb_script.specs.declared.line.Line.TheVariants.{Table}
use Rattle.pb_script.specs.declared.table_line.TableLine.{TableLine}
use Rattle.pb_script.specs.declared.script.Place.{Place}
use Rattle.pb_script.specs.declared.script.Place.TheVariants.{Between, Within}

next_read : Option (Place × Option Line) → Place → ℕ → ℕ → List (List ℕ) → NumberedRead
next_read next place block number texts = elim next [
  | None ↦ fault_at place block number
  | Some n ↦ behind_lines (ended_as (first_number place block number) n.1)
      (numbered_from n.0 (first_number place block number) (number + 1) texts)
]

two_fronts : (front more : List (ℕ × Line)) (read : NumberedRead)
    → behind_lines front (behind_lines more read) ≡ behind_lines (front ++ more) read
two_fronts front more read =
    ap (λ (all : List (ℕ × Line)). record { lines = all; within = read.within; fault = read.fault })
    (sym (append_assoc front more read.lines))

one_text : (place : Place) (block number : ℕ) (text : List ℕ) (texts : List (List ℕ)) (next : Place × Option Line)
    → step place text ≡ Some next
    → numbered_from place block number (text ∷ texts) ≡ behind_lines (ended_as (first_number place block number) next.1)
    (numbered_from next.0 (first_number place block number) (number + 1) texts)
unfolding numbered_from next_read
one_text place block number text texts next is = ap (λ (n : Option (Place × Option Line)). next_read n place block number texts) is

-- ---- a text where it stands

skipped_there : (place : Place) (text : List ℕ) → is_skipped text ≡ true → step place text ≡ Some (place, None)
unfolding step
skipped_there place text is = cond-true (is_skipped text) _ _ is

began : (table text : List ℕ) → is_skipped text ≡ false → line_of text ≡ Some (Table table [])
    → step Between text ≡ Some (Within table [], None)
unfolding step said
began table text kept is = cond-false (is_skipped text) _ _ kept
    ∙ ap (λ (read : Option Line). read >>= λ (line : Line). Some (after_line line)) is

ended : (table : List ℕ) (lines : List TableLine) (text : List ℕ) → is_skipped text ≡ false → is_end text ≡ true
    → step (Within table lines) text ≡ Some (Between, Some (Table table lines))
unfolding step said
ended table lines text kept is = cond-false (is_skipped text) _ _ kept ∙ cond-true (is_end text) _ _ is

one_line : (table : List ℕ) (lines : List TableLine) (text : List ℕ) (line : TableLine) → is_skipped text ≡ false → is_end text ≡ false
    → table_line_of text ≡ Some line
    → step (Within table lines) text ≡ Some (Within table (lines ++ line ∷ []), None)
unfolding step said
one_line table lines text line kept more is =
    cond-false (is_skipped text) _ _ kept ∙ cond-false (is_end text) _ _ more
    ∙ ap (λ (read : Option TableLine). read >>= λ (l : TableLine). Some (Within table (lines ++ l ∷ []), None)) is

no_line : IsSome {T = TableLine} None → ⊥
no_line is = cc

some_line : (read : Option TableLine) → IsSome read → (line : TableLine) × (read ≡ Some line)
some_line None is = absurd (no_line is)
some_line (Some line) is = (line, refl)

-- ---- within the block

lines_of_skipped : (text : List ℕ) (texts : List (List ℕ)) → is_skipped text ≡ true → table_lines_in (text ∷ texts) ≡ table_lines_in texts
lines_of_skipped text texts is = ap (λ (lines : List TableLine). lines ++ table_lines_in texts) (cond-true (is_skipped text) _ _ is)

lines_of_line : (text : List ℕ) (texts : List (List ℕ)) (line : TableLine) → is_skipped text ≡ false → table_line_of text ≡ Some line
    → table_lines_in (text ∷ texts) ≡ line ∷ table_lines_in texts
lines_of_line text texts line kept is =
    ap (λ (lines : List TableLine). lines ++ table_lines_in texts)
    (cond-false (is_skipped text) [] (option_to_list (table_line_of text)) kept ∙ ap option_to_list is)

inside_read : (inside : List (List ℕ)) (table : List ℕ) (lines : List TableLine) (block number : ℕ) (rest : List (List ℕ))
    → AllByRecursion IsInside inside
    → numbered_from (Within table lines) block number (inside ++ rest) ≡ numbered_from
    (Within table (lines ++ table_lines_in inside)) block (number + length inside) rest
inside_read [] table lines block number rest are =
    ap₂ (λ (ls : List TableLine) (n : ℕ). numbered_from (Within table ls) block n rest) (sym (append-nil lines)) (omega arith)
inside_read (text ∷ inside) table lines block number rest are =
    elim are.0 [
      | inl skipped ↦
          one_text (Within table lines) block number text (inside ++ rest) (Within table lines, None)
          (skipped_there (Within table lines) text skipped)
          ∙ inside_read inside table lines block (number + 1) rest are.1
          ∙ ap₂ (λ (ls : List TableLine) (n : ℕ). numbered_from (Within table (lines ++ ls)) block n rest)
          (sym (lines_of_skipped text inside skipped)) (omega arith)
      | inr told ↦
          let line = some_line (table_line_of text) told.2 in
          one_text (Within table lines) block number text (inside ++ rest) (Within table (lines ++ line.0 ∷ []), None)
          (one_line table lines text line.0 told.0 told.1 line.1)
          ∙ inside_read inside table (lines ++ line.0 ∷ []) block (number + 1) rest are.1
          ∙ ap₂ (λ (ls : List TableLine) (n : ℕ). numbered_from (Within table ls) block n rest)
          (append_assoc lines (line.0 ∷ []) (table_lines_in inside)
          ∙ ap (λ (ls : List TableLine). lines ++ ls) (sym (lines_of_line text inside line.0 told.0 line.1))) (omega arith)
    ]

-- ---- before the block

record Before (place there : Place) (block number : ℕ) (front rest : List (List ℕ)) : Type 0 where
  pub lines : List (ℕ × Line)
  pub block_there : ℕ
  pub read : numbered_from place block number (front ++ rest) ≡ behind_lines lines
      (numbered_from there block_there (number + length front) rest)

place_same : (one two : Place) → ◌≡◌ {A = Option Place} (Some one) (Some two) → one ≡ two
place_same one two is = cc

by_step : (place there : Place) (block number : ℕ) (text : List ℕ) (front rest : List (List ℕ)) (next : Option (Place × Option Line))
    → step place text ≡ next
    → (next >>= λ (n : Place × Option Line). place_behind n.0 front) ≡ Some there
    → ((p : Place) (b n : ℕ) → place_behind p front ≡ Some there → Before p there b n front rest)
    → Before place there block number (text ∷ front) rest
by_step place there block number text front rest None is stays more = cc
by_step place there block number text front rest (Some next) is stays more =
    let first = first_number place block number in
    let behind = more next.0 first (number + 1) stays in
    record {
      lines = ended_as first next.1 ++ behind.lines;
      block_there = behind.block_there;
      read =
          one_text place block number text (front ++ rest) next is
          ∙ ap (behind_lines (ended_as first next.1)) behind.read
          ∙ two_fronts (ended_as first next.1) behind.lines (numbered_from there behind.block_there (number + 1 + length front) rest)
          ∙ ap (λ (n : ℕ). behind_lines (ended_as first next.1 ++ behind.lines) (numbered_from there behind.block_there n rest))
          (omega arith);
    }

before_read : (front : List (List ℕ)) (place there : Place) (block number : ℕ) (rest : List (List ℕ))
    → place_behind place front ≡ Some there → Before place there block number front rest
unfolding place_behind
before_read [] place there block number rest stays = record {
  lines = [];
  block_there = block;
  read = ap₂ (λ (p : Place) (n : ℕ). numbered_from p block n rest) (place_same place there stays) (omega arith);
}
before_read (text ∷ front) place there block number rest stays =
    by_step place there block number text front rest (step place text) refl stays (λ p b n is. before_read front p there b n rest is)

-- ---- the block

block_read : (table first last : List ℕ) (inside back : List (List ℕ)) (block number : ℕ) → is_skipped first ≡ false
    → line_of first ≡ Some (Table table []) → AllByRecursion IsInside inside
    → is_skipped last ≡ false → is_end last ≡ true
    → numbered_from Between block number (first ∷ (inside ++ last ∷ back)) ≡ behind_lines
    ((number, Table table (table_lines_in inside)) ∷ []) (numbered_from Between number (number + 1 + length inside + 1) back)
block_read table first last inside back block number kept begins within there ends =
    one_text Between block number first (inside ++ last ∷ back) (Within table [], None) (began table first kept begins)
    ∙ inside_read inside table [] number (number + 1) (last ∷ back) within
    ∙ one_text (Within table (table_lines_in inside)) number (number + 1 + length inside) last back
    (Between, Some (Table table (table_lines_in inside)))
    (ended table (table_lines_in inside) last there ends)

pub block_is_line : (script : List ℕ) (block : IsBlock (texts_of script)) → (before behind : List (ℕ × Line))
    × ((numbered script).lines ≡ before ++ (length block.front + 1, Table block.table (table_lines_in block.inside)) ∷ behind)
unfolding numbered
block_is_line script block =
    let rest = block.first ∷ (block.inside ++ block.last ∷ block.back) in
    let before = before_read block.front Between Between 0 1 rest block.before in
    let read = block_read block.table block.first block.last block.inside block.back before.block_there
    (1 + length block.front) block.begins.0 block.begins.1 block.within block.ends.0 block.ends.1 in
    let behind = numbered_from Between (1 + length block.front) (1 + length block.front + 1 + length block.inside + 1) block.back in (
      before.lines,
      behind.lines,
      ap (λ (r : NumberedRead). r.lines) (ap (numbered_from Between 0 1) block.texts_are ∙ before.read
          ∙ ap (behind_lines before.lines) read)
          ∙ ap (λ (n : ℕ). before.lines ++ (n, Table block.table (table_lines_in block.inside)) ∷ behind.lines) (omega arith),
    )
