-- A script's fault is its first, and a script without one has all its lines.
use Rattle.std.proofs.Common.{◌≡◌, ℕ, suc, ◌+◌, List, [], ◌∷◌, ◌++◌, length, Option, Some, None, refl, sym, ap, ◌∙◌, arith, inl, inr, ◌⊎◌}
use Rattle.pb_script.specs.Answers.{◌>>=◌}
use Rattle.pb_script.specs.Texts.{texts_of}
use Rattle.pb_script.specs.Faults.{place_behind, IsOffAt, IsOpenAt}
use Rattle.pb_script.specs.Script.{ScriptRead, Lines, Fault, step, ended, lines_of}
use Rattle.pb_script.specs.declared.line.Line.{Line}
use Rattle.pb_script.specs.declared.table_line.TableLine.{TableLine}
use Rattle.pb_script.specs.declared.script.Place.{Place}
use Rattle.pb_script.specs.declared.script.Place.TheVariants.{Between, Within}
use Rattle.pb_script.proofs.ReadTexts.{behind_text, last_read, read_texts, lines_are_read}

same_fault : (one two : ℕ) → ◌≡◌ {A = ScriptRead} (Fault one) (Fault two) → one ≡ two
same_fault one two is = cc

none_at_last : (place : Place) (number : ℕ) → last_read place ≡ Fault number → IsOpenAt place [] number
unfolding place_behind
none_at_last Between number is = cc
none_at_last (Within table lines) number is =
    record { table = table; lines = lines; number_is = sym (same_fault 1 number is); open_there = refl }

-- the place behind one text more
one_more : (place : Place) (text : List ℕ) (texts : List (List ℕ)) (next : Place × Option Line) → step place text ≡ Some next
    → place_behind place (text ∷ texts) ≡ place_behind next.0 texts
unfolding place_behind
one_more place text texts next is = ap (λ (read : Option (Place × Option Line)). read >>= λ (n : Place × Option Line). place_behind n.0
    texts) is

counted : (line : Option Line) (read : ScriptRead) (number : ℕ) → behind_text line read ≡ Fault number
    → (before : ℕ) × (read ≡ Fault before) × (number ≡ before + 1)
counted line (Lines lines) number is = cc
counted line (Fault before) number is = (before, refl, sym (same_fault (before + 1) number is))

off_later : (place : Place) (text : List ℕ) (texts : List (List ℕ)) (next : Place × Option Line) (before number : ℕ)
    → step place text ≡ Some next → number ≡ before + 1
    → IsOffAt next.0 texts before ⊎ IsOpenAt next.0 texts before
    → IsOffAt place (text ∷ texts) number ⊎ IsOpenAt place (text ∷ texts) number
off_later place text texts next before number is counts found =
    elim found [
      | inl off ↦
          inl (record {
            front = text ∷ off.front;
            text = off.text;
            back = off.back;
            there = off.there;
            texts_are = ap (λ (t : List (List ℕ)). text ∷ t) off.texts_are;
            number_is = let e = off.number_is in omega (arith, counts, e);
            before = one_more place text off.front next is ∙ off.before;
            off = off.off;
          })
      | inr opened ↦
          inr (record {
            table = opened.table;
            lines = opened.lines;
            number_is = let e = opened.number_is in omega (arith, counts, e);
            open_there = one_more place text texts next is ∙ opened.open_there;
          })
    ]

by_step : (place : Place) (text : List ℕ) (texts : List (List ℕ)) (number : ℕ) (next : Option (Place × Option Line))
    → step place text ≡ next
    → elim next [ None ↦ Fault 1 | Some n ↦ behind_text n.1 (read_texts n.0 texts) ] ≡ Fault number
    → ((p : Place) (k : ℕ) → read_texts p texts ≡ Fault k → IsOffAt p texts k ⊎ IsOpenAt p texts k)
    → IsOffAt place (text ∷ texts) number ⊎ IsOpenAt place (text ∷ texts) number
unfolding place_behind
by_step place text texts number None is fault rest =
    inl (record {
      front = [];
      text = text;
      back = texts;
      there = place;
      texts_are = refl;
      number_is = sym
          (same_fault 1 number fault);
      before = refl;
      off = is;
    })
by_step place text texts number (Some next) is fault rest =
    let found = counted next.1 (read_texts next.0 texts) number fault in
    off_later place text texts next found.0 number is found.2 (rest next.0 found.0 found.1)

first_fault : (texts : List (List ℕ)) (place : Place) (number : ℕ) → read_texts place texts ≡ Fault number
    → IsOffAt place texts number ⊎ IsOpenAt place texts number
unfolding read_texts
first_fault [] place number is = inr (none_at_last place number is)
first_fault (text ∷ texts) place number is = by_step place text texts number (step place text) refl is (first_fault texts)

pub fault_is_first : (script : List ℕ) (number : ℕ) → lines_of script ≡ Fault number
    → IsOffAt Between (texts_of script) number ⊎ IsOpenAt Between (texts_of script) number
fault_is_first script number is = first_fault (texts_of script) Between number (sym (lines_are_read script) ∙ is)

-- ---- the other way

off_next : (place : Place) (text : List ℕ) (front : List (List ℕ)) (off : List ℕ) (back : List (List ℕ)) (there : Place)
    (next : Option (Place × Option Line)) → (next >>= λ (n : Place × Option Line). place_behind n.0 front) ≡ Some there
    → ((p : Place) → place_behind p front ≡ Some there → read_texts p (front ++ off ∷ back) ≡ Fault (length front + 1))
    → elim next [ None ↦ Fault 1 | Some n ↦ behind_text n.1 (read_texts n.0 (front ++ off ∷ back)) ] ≡ Fault (length front + 1 + 1)
off_next place text front off back there None stays rest = cc
off_next place text front off back there (Some next) stays rest = ap (behind_text next.1) (rest next.0 stays)

off_found : (front : List (List ℕ)) (place : Place) (text : List ℕ) (back : List (List ℕ)) (there : Place)
    → place_behind place front ≡ Some there
    → step there text ≡ None → read_texts place (front ++ text ∷ back) ≡ Fault (length front + 1)
unfolding place_behind read_texts
off_found [] place text back there stays off =
    let here : place ≡ there = cc in
    ap (λ (next : Option (Place × Option Line)). elim next [ None ↦ Fault 1 | Some n ↦ behind_text n.1 (read_texts n.0 back) ])
    (ap (λ (p : Place). step p text) here ∙ off)
off_found (first ∷ front) place text back there stays off =
    off_next place first front text back there (step place first) stays (λ p before. off_found front p text back there before off)
    ∙ ap (λ (n : ℕ). Fault n) (let e : length front + 1 + 1 ≡ suc (length front) + 1 = omega arith in e)

open_next : (texts : List (List ℕ)) (there : Place) (next : Option (Place × Option Line))
    → (next >>= λ (n : Place × Option Line). place_behind n.0 texts) ≡ Some there
    → ((p : Place) → place_behind p texts ≡ Some there → read_texts p texts ≡ Fault (length texts + 1))
    → elim next [ None ↦ Fault 1 | Some n ↦ behind_text n.1 (read_texts n.0 texts) ] ≡ Fault (length texts + 1 + 1)
open_next texts there None stays rest = cc
open_next texts there (Some next) stays rest = ap (behind_text next.1) (rest next.0 stays)

open_found : (texts : List (List ℕ)) (place : Place) (table : List ℕ) (lines : List TableLine)
    → place_behind place texts ≡ Some (Within table lines) → read_texts place texts ≡ Fault (length texts + 1)
unfolding place_behind read_texts
open_found [] Between table lines stays = cc
open_found [] (Within other behind) table lines stays = refl
open_found (text ∷ texts) place table lines stays =
    open_next texts (Within table lines) (step place text) stays (λ p before. open_found texts p table lines before)
    ∙ ap (λ (n : ℕ). Fault n) (let e : length texts + 1 + 1 ≡ suc (length texts) + 1 = omega arith in e)

pub off_is_fault : (script : List ℕ) (number : ℕ) → IsOffAt Between (texts_of script) number → lines_of script ≡ Fault number
off_is_fault script number off =
    lines_are_read script
    ∙ ap (λ (texts : List (List ℕ)). read_texts Between texts) off.texts_are
    ∙ off_found off.front Between off.text off.back off.there off.before off.off
    ∙ ap (λ (n : ℕ). Fault n) (sym off.number_is)

pub open_is_fault : (script : List ℕ) (number : ℕ) → IsOpenAt Between (texts_of script) number → lines_of script ≡ Fault number
open_is_fault script number opened =
    lines_are_read script
    ∙ open_found (texts_of script) Between opened.table opened.lines opened.open_there
    ∙ ap (λ (n : ℕ). Fault n) (sym opened.number_is)

-- ---- a script without fault

lines_behind : (line : Option Line) (read : ScriptRead) (lines : List Line) → read ≡ Lines lines
    → behind_text line read ≡ Lines (ended line ++ lines)
lines_behind line read lines is = ap (behind_text line) is

by_place : (place : Place) (text : List ℕ) (texts : List (List ℕ)) (next : Option (Place × Option Line))
    → (next >>= λ (n : Place × Option Line). place_behind n.0 texts) ≡ Some Between
    → ((p : Place) → place_behind p texts ≡ Some Between → (lines : List Line) × (read_texts p texts ≡ Lines lines))
    → (lines : List Line) × (elim next [ None ↦ Fault 1 | Some n ↦ behind_text n.1 (read_texts n.0 texts) ] ≡ Lines lines)
by_place place text texts None stays rest = cc
by_place place text texts (Some next) stays rest =
    let more = rest next.0 stays in (ended next.1 ++ more.0, lines_behind next.1 (read_texts next.0 texts) more.0 more.1)

all_read : (texts : List (List ℕ)) (place : Place) → place_behind place texts ≡ Some Between
    → (lines : List Line) × (read_texts place texts ≡ Lines lines)
unfolding place_behind read_texts
all_read [] Between stays = ([], refl)
all_read [] (Within table lines) stays = cc
all_read (text ∷ texts) place stays = by_place place text texts (step place text) stays (all_read texts)

pub faultless_has_all : (script : List ℕ) → place_behind Between (texts_of script) ≡ Some Between
    → (lines : List Line) × (lines_of script ≡ Lines lines)
faultless_has_all script stays = let all = all_read (texts_of script) Between stays in (all.0, lines_are_read script ∙ all.1)
