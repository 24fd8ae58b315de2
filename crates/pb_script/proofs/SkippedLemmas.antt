-- A skipped text more moves the numbers behind it.
use Rattle.std.proofs.Common.{◌≡◌, ℕ, ◌+◌, ◌<◌, ◌≤◌, true, nat_le, List, [], ◌∷◌, ◌++◌, map, length, Option, Some, None, option_map, refl, sym, ap, ap₂, ◌∙◌, arith, ◌⊎◌}
use Rattle.std.specs.Io.BufRead.{strip_last, ends_with_byte}
use Rattle.std.proofs.lemmas.Bool.{cond-true, cond-false}
use Rattle.std.proofs.lemmas.Bool.Decides.{nat_tests}
use Rattle.std.proofs.lemmas.List.{map-append}
use Rattle.pb_script.specs.Faults.{moved_number, moved_line, moved}
use Rattle.pb_script.specs.Script.{NumberedRead, step, ended_as, first_number, fault_at, behind_lines, numbered_from, numbered}
use Rattle.pb_script.specs.Texts.{texts_of, HasNoFeed}
use Rattle.pb_script.specs.Words.{is_skipped}
use Rattle.pb_script.specs.declared.line.Line.{Line}
use Rattle.pb_script.specs.declared.script.Place.{Place}
use Rattle.pb_script.specs.declared.script.Place.TheVariants.{Between, Within}
use Rattle.pb_script.proofs.Scanned.{lines_before, line_first}

later : (at number : ℕ) → at ≤ number → moved_number at number ≡ number + 1
later at number h = cond-true (nat_le at number) _ _ (grind (arith, nat_tests))

earlier : (at number : ℕ) → number < at → moved_number at number ≡ number
earlier at number h = cond-false (nat_le at number) _ _ (grind (arith, nat_tests))

skipped_step : (place : Place) (text : List ℕ) → is_skipped text ≡ true → step place text ≡ Some (place, None)
unfolding step
skipped_step place text is = cond-true (is_skipped text) _ _ is

-- the fields of a read that moves
moved_behind : (at : ℕ) (front : List (ℕ × Line)) (read : NumberedRead)
    → moved at (behind_lines front read) ≡ behind_lines (map (moved_line at) front) (moved at read)
moved_behind at front read =
    ap (λ (lines : List (ℕ × Line)). record {
      lines = lines;
      within = option_map (moved_number at) read.within;
      fault = option_map
          (moved_number at) read.fault;
    })
    (map-append (moved_line at) front read.lines)

moved_end : (at number moved_to : ℕ) (line : Option Line) → moved_number at number ≡ moved_to
    → map (moved_line at) (ended_as number line) ≡ ended_as moved_to line
moved_end at number moved_to None is = refl
moved_end at number moved_to (Some line) is = ap (λ (n : ℕ). (n, line) ∷ []) is

moved_fault : (at block number new_block new_number : ℕ) (place : Place) → moved_number at block ≡ new_block
    → moved_number at number ≡ new_number
    → moved at (fault_at place block number) ≡ fault_at place new_block new_number
moved_fault at block number new_block new_number Between one two = ap (λ (n : ℕ). record { lines = []; within = None; fault = Some n }) two
moved_fault at block number new_block new_number (Within table lines) one two = ap₂
    (λ (b n : ℕ). record { lines = []; within = Some b; fault = Some n }) one two

next_read : Option (Place × Option Line) → Place → ℕ → ℕ → List (List ℕ) → NumberedRead
next_read next place block number texts = elim next [
  | None ↦ fault_at place block number
  | Some n ↦ behind_lines (ended_as (first_number place block number) n.1)
      (numbered_from n.0 (first_number place block number) (number + 1) texts)
]

-- one text on, where the numbers move as told
moved_next : (at : ℕ) (next : Option (Place × Option Line)) (place : Place) (block number new_block new_number : ℕ)
    (texts new_texts : List (List ℕ))
    → moved_number at block ≡ new_block → moved_number at number ≡ new_number
    → moved_number at (first_number place block number) ≡ first_number place new_block new_number
    → ((p : Place) → moved at (numbered_from p (first_number place block number) (number + 1) texts) ≡ numbered_from p
    (first_number place new_block new_number) (new_number + 1) new_texts)
    → moved at (next_read next place block number texts) ≡ next_read next place new_block new_number new_texts
unfolding next_read
moved_next at None place block number new_block new_number texts new_texts one two first rest = moved_fault at block number new_block
    new_number place one two
moved_next at (Some next) place block number new_block new_number texts new_texts one two first rest =
    moved_behind at (ended_as (first_number place block number) next.1)
    (numbered_from next.0 (first_number place block number) (number + 1) texts)
    ∙ ap₂ behind_lines (moved_end at (first_number place block number) (first_number place new_block new_number) next.1 first) (rest next.0)

first_moved : (at : ℕ) (place : Place) (block number new_block new_number : ℕ) → moved_number at block ≡ new_block
    → moved_number at number ≡ new_number
    → moved_number at (first_number place block number) ≡ first_number place new_block new_number
first_moved at Between block number new_block new_number one two = two
first_moved at (Within table lines) block number new_block new_number one two = one

-- behind the skipped text
behind_it : (at : ℕ) (texts : List (List ℕ)) (place : Place) (block number : ℕ) → at ≤ number
    → moved at (numbered_from place block number texts) ≡ numbered_from place (moved_number at block) (number + 1) texts
unfolding numbered_from next_read
behind_it at [] Between block number h = refl
behind_it at [] (Within table lines) block number h = moved_fault at block number (moved_number at block) (number + 1)
    (Within table lines) refl (later at number h)
behind_it at (text ∷ texts) place block number h =
    let first = first_moved at place block number (moved_number at block) (number + 1) refl (later at number h) in
    moved_next at (step place text) place block number (moved_number at block) (number + 1) texts texts refl (later at number h) first
    (λ p. behind_it at texts p (first_number place block number) (number + 1) (omega (arith, h))
    ∙ ap (λ (b : ℕ). numbered_from p b (number + 1 + 1) texts) first)

-- between lines no block is told
no_block : (texts : List (List ℕ)) (one other number : ℕ)
    → numbered_from Between one number texts ≡ numbered_from Between other number texts
unfolding numbered_from
no_block [] one other number = refl
no_block (text ∷ texts) one other number = refl

at_it : (place : Place) (block at : ℕ) (texts : List (List ℕ)) → block < at
    → numbered_from place (first_number place block at) (at + 1) texts ≡ moved at (numbered_from place block at texts)
at_it Between block at texts h = no_block texts at (moved_number at block) (at + 1)
    ∙ sym (behind_it at texts Between block at (omega arith))
at_it (Within table lines) block at texts h =
    ap (λ (b : ℕ). numbered_from (Within table lines) b (at + 1) texts) (sym (earlier at block h))
    ∙ sym (behind_it at texts (Within table lines) block at (omega arith))

skipped_here : (text : List ℕ) (texts : List (List ℕ)) (place : Place) (block at : ℕ) → is_skipped text ≡ true → block < at
    → numbered_from place block at (text ∷ texts) ≡ moved at (numbered_from place block at texts)
unfolding numbered_from next_read
skipped_here text texts place block at is h =
    ap (λ (next : Option (Place × Option Line)). next_read next place block at texts) (skipped_step place text is)
    ∙ at_it place block at texts h

first_below : (place : Place) (block number at : ℕ) → block < at → number < at → first_number place block number < at
first_below Between block number at h k = k
first_below (Within table lines) block number at h k = h

skipped_from : (front : List (List ℕ)) (text : List ℕ) (texts : List (List ℕ)) (place : Place) (block number at : ℕ)
    → is_skipped text ≡ true → number + length front ≡ at → block < at
    → moved at (numbered_from place block number (front ++ texts)) ≡ numbered_from place block number (front ++ text ∷ texts)
unfolding numbered_from next_read
skipped_from [] text texts place block number at is here h =
    let same : number ≡ at = omega (arith, here) in
    ap (λ (n : ℕ). moved at (numbered_from place block n texts)) same ∙ sym (skipped_here text texts place block at is h)
    ∙ ap (λ (n : ℕ). numbered_from place block n (text ∷ texts)) (sym same)
skipped_from (first ∷ front) text texts place block number at is here h =
    let below : number < at = omega (arith, here) in
    moved_next at (step place first) place block number block number (front ++ texts) (front ++ text ∷ texts) (earlier at block h)
    (earlier at number below)
    (earlier at (first_number place block number) (first_below place block number at h below))
    (λ p. skipped_from front text texts p (first_number place block number) (number + 1) at is (omega (arith, here))
    (first_below place block number at h below))

pub skipped_says_nothing : (front text back : List ℕ) → (front ≡ []) ⊎ (ends_with_byte 10 front ≡ true) → HasNoFeed text
    → is_skipped (strip_last 13 text) ≡ true
    → numbered (front ++ (text ++ 10 ∷ back)) ≡ moved (length (texts_of front) + 1) (numbered (front ++ back))
unfolding numbered
skipped_says_nothing front text back whole each is =
    ap (numbered_from Between 0 1) (lines_before front (text ++ 10 ∷ back) whole
    ∙ ap (λ (texts : List (List ℕ)). texts_of front ++ texts) (line_first text back each))
    ∙ sym (skipped_from (texts_of front) (strip_last 13 text) (texts_of back) Between 0 1 (length (texts_of front) + 1) is (omega arith)
    (omega arith))
    ∙ ap (λ (texts : List (List ℕ)). moved (length (texts_of front) + 1) (numbered_from Between 0 1 texts))
    (sym (lines_before front back whole))
