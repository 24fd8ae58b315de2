-- Names and lines, read one after the other.
use Rattle.std.proofs.Common.{◌≡◌, ℕ, ◌+◌, ◌<◌, ◌≤◌, List, [], ◌∷◌, ◌++◌, length, Option, Some, None, unwrap_or, refl, sym, ap, ◌∙◌, append_assoc, length-append, arith}
use Rattle.std.proofs.lemmas.List.{append-nil}
use Rattle.pb_script.specs.Answers.{◌>>=◌}
use Rattle.pb_script.specs.Fields.{names_of}
use Rattle.pb_script.specs.Strings.{name_of}
use Rattle.pb_script.specs.Script.{NumberedRead, ScriptRead, Lines, Fault, without_numbers, as_read, lines_of, first_number, ended_as, block_at, fault_at, behind_lines, numbered_from, numbered, with_lines, with_numbered, step}
use Rattle.pb_script.specs.Texts.{texts_of}
use Rattle.pb_script.specs.declared.line.Line.{Line}
use Rattle.pb_script.specs.declared.table_line.TableLine.{TableLine}
use Rattle.pb_script.specs.declared.script.Place.{Place}
use Rattle.pb_script.specs.declared.script.Place.TheVariants.{Between, Within}

-- these names, before those that are still read
abbrev pub with_names : List (List ℕ) → Option (List (List ℕ)) → Option (List (List ℕ))
with_names front None = None
with_names front (Some names) = Some (front ++ names)

with_names-push : (front : List (List ℕ)) (name : List ℕ) (read : Option (List (List ℕ)))
    → with_names front (read >>= λ names. Some (name ∷ names)) ≡ with_names (front ++ name ∷ []) read
with_names-push front name None = refl
with_names-push front name (Some names) = ap (λ (x : List (List ℕ)). Some x) (sym (append_assoc front (name ∷ []) names))

pub next_name : (front : List (List ℕ)) (word name : List ℕ) (words : List (List ℕ)) → name_of word ≡ Some name
    → with_names front (names_of (word ∷ words)) ≡ with_names (front ++ name ∷ []) (names_of words)
unfolding names_of
next_name front word name words is = rw is (with_names-push front name (names_of words))

pub no_name : (front : List (List ℕ)) (word : List ℕ) (words : List (List ℕ)) → name_of word ≡ None
    → with_names front (names_of (word ∷ words)) ≡ None
unfolding names_of
no_name front word words is = rw is refl

pub all_names : (front : List (List ℕ)) → with_names front (names_of []) ≡ Some front
unfolding names_of
all_names front = ap (λ (x : List (List ℕ)). Some x) (append-nil front)

-- ---- the lines

behind_behind : (front more : List (ℕ × Line)) (read : NumberedRead)
    → behind_lines front (behind_lines more read) ≡ behind_lines (front ++ more) read
behind_behind front more read =
    ap (λ (all : List (ℕ × Line)). record { lines = all; within = read.within; fault = read.fault })
    (sym (append_assoc front more read.lines))

-- the place and the lines behind a text, and what the texts behind it say
next_step : (front new : List (ℕ × Line)) (texts : List (List ℕ)) (place next : Place) (block number : ℕ)
    (read : Option (Place × Option Line))
    → with_numbered front (first_number place block number) read ≡ Some (next, new)
    → behind_lines front (elim read [
      | None ↦ fault_at place block number
      | Some n ↦ behind_lines (ended_as (first_number place block number) n.1)
          (numbered_from n.0 (first_number place block number) (number + 1) texts)
    ]) ≡ behind_lines new (numbered_from next (first_number place block number) (number + 1) texts)
next_step front new texts place next block number None is = cc
next_step front new texts place next block number (Some (there, line)) is =
    let first = first_number place block number in
    let both : ◌≡◌ {A = Place × List (ℕ × Line)} (there, front ++ ended_as first line) (next, new) = cc in
    let same = ap (λ (x : Place × List (ℕ × Line)). x.0) both in
    let grown = ap (λ (x : Place × List (ℕ × Line)). x.1) both in
    behind_behind front (ended_as first line) (numbered_from there first (number + 1) texts)
    ∙ ap (λ (p : Place). behind_lines (front ++ ended_as first line) (numbered_from p first (number + 1) texts)) same
    ∙ ap (λ (f : List (ℕ × Line)). behind_lines f (numbered_from next first (number + 1) texts)) grown

next_text : (front new : List (ℕ × Line)) (place next : Place) (block number : ℕ) (text : List ℕ) (texts : List (List ℕ))
    → with_numbered front (first_number place block number) (step place text) ≡ Some (next, new)
    → behind_lines front (numbered_from place block number (text ∷ texts)) ≡ behind_lines new
    (numbered_from next (first_number place block number) (number + 1) texts)
unfolding numbered_from
next_text front new place next block number text texts is = next_step front new texts place next block number (step place text) is

off_step : (front : List (ℕ × Line)) (first : ℕ) (read : Option (Place × Option Line)) → with_numbered front first read ≡ None → read ≡ None
off_step front first None is = refl
off_step front first (Some next) is = cc

off_text : (front : List (ℕ × Line)) (place : Place) (block number : ℕ) (text : List ℕ) (texts : List (List ℕ)) → step place text ≡ None
    → behind_lines front (numbered_from place block number (text ∷ texts))
    ≡ record { lines = front; within = block_at place block; fault = Some number }
unfolding numbered_from
off_text front place block number text texts is =
    ap (λ (s : Option (Place × Option Line)). behind_lines front (elim s [
      | None ↦ fault_at place block number
      | Some n ↦ behind_lines (ended_as (first_number place block number) n.1)
          (numbered_from n.0 (first_number place block number) (number + 1) texts)
    ])) is
    ∙ ap (λ (all : List (ℕ × Line)). record { lines = all; within = block_at place block; fault = Some number }) (append-nil front)

-- a text's own number, or its block's
pub first_is : (place : Place) (block number : ℕ) (within : Option ℕ) → within ≡ block_at place block
    → unwrap_or within number ≡ first_number place block number
first_is Between block number within is = ap (λ (w : Option ℕ). unwrap_or w number) is
first_is (Within table lines) block number within is = ap (λ (w : Option ℕ). unwrap_or w number) is

pub first_upto : (place : Place) (block number : ℕ) → block ≤ number → first_number place block number ≤ number
first_upto Between block number h = omega arith
first_upto (Within table lines) block number h = h

pub begins : (script : List ℕ) (front : List (ℕ × Line)) → front ≡ []
    → numbered script ≡ behind_lines front (numbered_from Between 0 1 (texts_of script))
unfolding numbered
begins script front is = ap (λ (f : List (ℕ × Line)). behind_lines f (numbered_from Between 0 1 (texts_of script))) (sym is)

module _ (whole : NumberedRead) (front : List (ℕ × Line)) (place : Place) (block number : ℕ) (rest : List ℕ)
    (so_far : whole ≡ behind_lines front (numbered_from place block number (texts_of rest))) where
  with_texts : (texts : List (List ℕ)) → texts_of rest ≡ texts → whole ≡ behind_lines front (numbered_from place block number texts)
  with_texts texts are = so_far ∙ ap (λ (t : List (List ℕ)). behind_lines front (numbered_from place block number t)) are

  pub next_read : (new : List (ℕ × Line)) (text behind : List ℕ) (next : Place) (first : ℕ) → first ≡ first_number place block number
      → texts_of rest ≡ text ∷ texts_of behind
      → with_numbered front first (step place text) ≡ Some (next, new)
      → whole ≡ behind_lines new (numbered_from next first (number + 1) (texts_of behind))
  next_read new text behind next first is texts read =
      with_texts (text ∷ texts_of behind) texts
      ∙ next_text front new place next block number text (texts_of behind)
      (ap (λ (n : ℕ). with_numbered front n (step place text)) (sym is) ∙ read)
      ∙ ap (λ (n : ℕ). behind_lines new (numbered_from next n (number + 1) (texts_of behind))) (sym is)

  pub fault_read : (text behind : List ℕ) (first : ℕ) → texts_of rest ≡ text ∷ texts_of behind
      → with_numbered front first (step place text) ≡ None
      → whole ≡ record { lines = front; within = block_at place block; fault = Some number }
  fault_read text behind first texts off = with_texts (text ∷ texts_of behind) texts
      ∙ off_text front place block number text (texts_of behind) (off_step front first (step place text) off)

  pub between_read : rest ≡ [] → place ≡ Between → whole ≡ record { lines = front; within = None; fault = None }
  unfolding numbered_from
  between_read none is =
      with_texts [] (ap texts_of none)
      ∙ ap (λ (p : Place). behind_lines front (numbered_from p block number [])) is
      ∙ ap (λ (all : List (ℕ × Line)). record { lines = all; within = None; fault = None }) (append-nil front)

  pub within_read : (table : List ℕ) (lines : List TableLine) → rest ≡ [] → place ≡ Within table lines
      → whole ≡ record { lines = front; within = Some block; fault = Some number }
  unfolding numbered_from
  within_read table lines none is =
      with_texts [] (ap texts_of none)
      ∙ ap (λ (p : Place). behind_lines front (numbered_from p block number [])) is
      ∙ ap (λ (all : List (ℕ × Line)). record { lines = all; within = Some block; fault = Some number }) (append-nil front)

-- ---- what a text's step does to numbered lines

-- a step ends no line, or one, which comes behind the others
pub no_line : (old new : List Line) (place : Place) (read : Option (Place × Option Line)) → with_lines old read ≡ Some (place, new)
    → length new ≤ length old
    → (read ≡ Some (place, None)) × (new ≡ old)
no_line old new place None is h = cc
no_line old new place (Some (there, None)) is h =
    let both : ◌≡◌ {A = Place × List Line} (there, old ++ []) (place, new) = cc in (
      ap (λ (p : Place). Some (p, None)) (ap (λ (x : Place × List Line). x.0) both),
      sym (ap (λ (x : Place × List Line). x.1) both)
          ∙ append-nil old,
    )
no_line old new place (Some (there, Some line)) is h =
    let both : ◌≡◌ {A = Place × List Line} (there, old ++ line ∷ []) (place, new) = cc in
    let same : length (old ++ line ∷ []) ≡ length new = ap (λ (x : Place × List Line). length x.1) both in
    absurd (omega (arith, h, same, length-append old (line ∷ [])))

pub one_line : (old new : List Line) (place : Place) (read : Option (Place × Option Line)) → with_lines old read ≡ Some (place, new)
    → length old < length new
    → (line : Line) × (read ≡ Some (place, Some line)) × (new ≡ old ++ line ∷ [])
one_line old new place None is h = cc
one_line old new place (Some (there, None)) is h =
    let both : ◌≡◌ {A = Place × List Line} (there, old ++ []) (place, new) = cc in
    let same : length (old ++ []) ≡ length new = ap (λ (x : Place × List Line). length x.1) both in
    absurd (omega (arith, h, same, length-append old []))
one_line old new place (Some (there, Some line)) is h =
    let both : ◌≡◌ {A = Place × List Line} (there, old ++ line ∷ []) (place, new) = cc in (
      line,
      ap (λ (p : Place). Some (p, Some line)) (ap (λ (x : Place × List Line). x.0) both),
      sym
          (ap (λ (x : Place × List Line). x.1) both),
    )

pub none_read : (old : List Line) (front : List (ℕ × Line)) (first : ℕ) (read : Option (Place × Option Line)) → with_lines old read ≡ None
    → with_numbered front first read ≡ None
none_read old front first None is = refl
none_read old front first (Some next) is = cc

-- ---- a script read

abbrev pub of_fault : List (ℕ × Line) → Option ℕ → ScriptRead
of_fault lines fault = elim fault [ None ↦ Lines (without_numbers lines) | Some number ↦ Fault number ]

pub read_lines : (script : List ℕ) (read : NumberedRead) → read ≡ numbered script → read.fault ≡ None
    → lines_of script ≡ Lines (without_numbers read.lines)
unfolding lines_of
read_lines script read is none = ap as_read (sym is) ∙ ap (of_fault read.lines) none

pub read_fault : (script : List ℕ) (read : NumberedRead) (number : ℕ) → read ≡ numbered script → read.fault ≡ Some number
    → lines_of script ≡ Fault number
unfolding lines_of
read_fault script read number is some = ap as_read (sym is) ∙ ap (of_fault read.lines) some
