-- What a number that is kept changes, and what halving finds.
use Rattle.std.proofs.Common.{◌≡◌, ℕ, zero, suc, ◌+◌, ◌-◌, ◌<◌, ◌≤◌, ◌^◌, Bool, true, false, nat_le, List, [], ◌∷◌, ◌++◌, map, length, get_or, slice_get, Some, refl, sym, ap, ap₂, ◌∙◌, subst, arith, inl, inr}
use Rattle.std.specs.List.Sorted.{IsPartitionPoint, IsPartitionedBy}
use Rattle.std.proofs.lemmas.Bool.{cases_lt, cond-true, cond-false}
use Rattle.std.proofs.lemmas.Bool.Decides.{nat_tests}
use Rattle.pb_script.specs.Runs.{number_by, number_from, number_at, numbers_from, with_numbers, Ascend, AreKept}
use Rattle.pb_script.specs.Script.{without_numbers}
use Rattle.pb_script.specs.declared.line.Line.{Line}
use Rattle.pb_script.specs.declared.runs.Run.{Run}

-- ---- one run more

pushed : (number : ℕ) (runs : List Run) (run : Run) (place : ℕ)
    → number_from number (runs ++ run ∷ []) place ≡ number_by place (number_from number runs place) run
pushed number [] run place = refl
pushed number (first ∷ runs) run place = pushed (number_by place number first) runs run place

from_here : (place later number before : ℕ) → place ≤ later
    → number_by later before (record { place = place; number = number }) ≡ number + (later - place)
from_here place later number before h = cond-true (nat_le place later) _ _ (grind (arith, nat_tests))

before_it : (place earlier number before : ℕ) → earlier < place
    → number_by earlier before (record { place = place; number = number }) ≡ before
before_it place earlier number before h = cond-false (nat_le place earlier) _ _ (grind (arith, nat_tests))

pub ascend_upto : (runs : List Run) (from end : ℕ) → Ascend from runs end → from ≤ end
ascend_upto [] from end is = is
ascend_upto (run ∷ runs) from end is = let more = ascend_upto runs (run.place + 1) end is.1 in omega (arith, is.0, more)

widened : (runs : List Run) (from end : ℕ) → Ascend from runs end → Ascend from runs (end + 1)
widened [] from end is = omega (arith, is)
widened (run ∷ runs) from end is = (is.0, widened runs (run.place + 1) end is.1)

one_more : (runs : List Run) (from end number : ℕ) → Ascend from runs end
    → Ascend from (runs ++ record { place = end; number = number } ∷ []) (end + 1)
one_more [] from end number is = (is, omega arith)
one_more (run ∷ runs) from end number is = (is.0, one_more runs (run.place + 1) end number is.1)

-- ---- the number behind the last line

by_one : (run : Run) (end number : ℕ) → run.place < end → number_by (end + 1) (number + 1) run ≡ number_by end number run + 1
by_one run end number h =
    cond-true (nat_le run.place (end + 1)) _ _ (grind (arith, nat_tests))
    ∙ let e : run.number + (end + 1 - run.place) ≡ run.number + (end - run.place) + 1 = omega (arith, h) in e
    ∙ ap (λ (n : ℕ). n + 1) (sym (cond-true (nat_le run.place end) (run.number + (end - run.place)) number (grind (arith, nat_tests))))

next_number : (runs : List Run) (from end number : ℕ) → Ascend from runs end
    → number_from (number + 1) runs (end + 1) ≡ number_from number runs end + 1
next_number [] from end number is = refl
next_number (run ∷ runs) from end number is =
    let below = ascend_upto runs (run.place + 1) end is.1 in
    ap (λ (n : ℕ). number_from n runs (end + 1)) (by_one run end number (omega (arith, below)))
    ∙ next_number runs (run.place + 1) end (number_by end number run) is.1

small_upto : (runs : List Run) (count number : ℕ) → ((place : ℕ) → place < count → number_at runs place < 2 ^ 64)
    → number_at runs count ≡ number → number + 1 < 2 ^ 64
    → (place : ℕ) → place < count + 1 → number_at runs place < 2 ^ 64
small_upto runs count number small is fits place h =
    elim (cases_lt place count) [
      | inl before ↦ small place before
      | inr past ↦ let same : count ≡ place = omega (arith, h, past) in subst (λ (p : ℕ). number_at runs p < 2 ^ 64) same
          (let e = is in omega (arith, e, fits))
    ]

pub none_kept : AreKept [] 1 0
none_kept = record { runs_are = record { ascend = omega arith; small = λ place h. absurd (omega (arith, h)) }; next_is = refl }

pub same_run : (runs : List Run) (next count number : ℕ) → AreKept runs next count → number ≡ next → number + 1 < 2 ^ 64
    → AreKept runs (number + 1) (count + 1)
same_run runs next count number kept is fits = record {
  runs_are = record {
    ascend = widened runs 0 count kept.runs_are.ascend;
    small = small_upto runs count number kept.runs_are.small (sym (is ∙ kept.next_is)) fits;
  };
  next_is = ap (λ (n : ℕ). n + 1) (is ∙ kept.next_is) ∙ sym (next_number runs 0 count (count + 1) kept.runs_are.ascend);
}

module _ (runs : List Run) (count number : ℕ) where
  abbrev with_run : List Run
  with_run = runs ++ record { place = count; number = number } ∷ []

  pub run_here : number_at with_run count ≡ number
  run_here = pushed (count + 1) runs (record { place = count; number = number }) count ∙ from_here count count number _ (omega arith)
      ∙ omega arith

  pub run_before : (place : ℕ) → place < count → number_at with_run place ≡ number_at runs place
  run_before place h = pushed (place + 1) runs (record { place = count; number = number }) place ∙ before_it count place number _ h

  run_behind : number_at with_run (count + 1) ≡ number + 1
  run_behind = pushed (count + 1 + 1) runs (record { place = count; number = number }) (count + 1)
      ∙ from_here count (count + 1) number _ (omega arith) ∙ omega arith

  pub run_kept : (next : ℕ) → AreKept runs next count → number + 1 < 2 ^ 64 → AreKept with_run (number + 1) (count + 1)
  run_kept next kept fits = record {
    runs_are = record {
      ascend = one_more runs 0 count number kept.runs_are.ascend;
      small = small_upto with_run count number (λ place h. subst (λ (n : ℕ). n < 2 ^ 64) (sym (run_before place h))
          (kept.runs_are.small place h)) run_here fits;
    };
    next_is = sym run_behind;
  }

-- ---- lines with their numbers

numbers_push : (runs : List Run) (lines : List Line) (line : Line) (place : ℕ)
    → numbers_from place runs (lines ++ line ∷ []) ≡ numbers_from place runs lines ++ (number_at runs (place + length lines), line) ∷ []
numbers_push runs [] line place = ap (λ (p : ℕ). (number_at runs p, line) ∷ []) (omega arith)
numbers_push runs (first ∷ lines) line place =
    ap (λ (rest : List (ℕ × Line)). (number_at runs place, first) ∷ rest) (numbers_push runs lines line (place + 1))
    ∙ ap (λ (p : ℕ). (number_at runs place, first) ∷ (numbers_from (place + 1) runs lines ++ (number_at runs p, line) ∷ [])) (omega arith)

numbers_same : (runs new : List Run) (lines : List Line) (place : ℕ)
    → ((at : ℕ) → at < place + length lines → number_at new at ≡ number_at runs at)
    → numbers_from place new lines ≡ numbers_from place runs lines
numbers_same runs new [] place same = refl
numbers_same runs new (line ∷ lines) place same =
    ap₂ (λ (n : ℕ) (rest : List (ℕ × Line)). (n, line) ∷ rest) (same place (omega arith))
    (numbers_same runs new lines (place + 1) (λ at h. same at (omega (arith, h))))

pub line_kept : (runs new : List Run) (lines : List Line) (line : Line) (number : ℕ)
    → ((at : ℕ) → at < length lines → number_at new at ≡ number_at runs at) → number_at new (length lines) ≡ number
    → with_numbers new (lines ++ line ∷ []) ≡ with_numbers runs lines ++ (number, line) ∷ []
line_kept runs new lines line number before at =
    numbers_push new lines line 0
    ∙ ap₂ (λ (front : List (ℕ × Line)) (n : ℕ). front ++ (n, line) ∷ [])
    (numbers_same runs new lines 0 (λ at h. before at (omega (arith, h)))) (ap (number_at new) (omega arith) ∙ at)

lines_from : (runs : List Run) (lines : List Line) (place : ℕ) → without_numbers (numbers_from place runs lines) ≡ lines
lines_from runs [] place = refl
lines_from runs (line ∷ lines) place = ap (λ (rest : List Line). line ∷ rest) (lines_from runs lines (place + 1))

pub lines_again : (runs : List Run) (lines : List Line) → without_numbers (with_numbers runs lines) ≡ lines
lines_again runs lines = lines_from runs lines 0

length_from : (runs : List Run) (lines : List Line) (place : ℕ) → length (numbers_from place runs lines) ≡ length lines
length_from runs [] place = refl
length_from runs (line ∷ lines) place = ap suc (length_from runs lines (place + 1))

pub length-with_numbers : (runs : List Run) (lines : List Line) → length (with_numbers runs lines) ≡ length lines
length-with_numbers runs lines = length_from runs lines 0

numbered_at : (runs : List Run) (lines : List Line) (place at : ℕ) → at < length lines
    → slice_get (map (λ (line : ℕ × Line). line.0) (numbers_from place runs lines)) at ≡ Some (number_at runs (place + at))
numbered_at runs [] place at h = absurd (omega (arith, h))
numbered_at runs (line ∷ lines) place zero h = ap (λ (p : ℕ). Some (number_at runs p)) (omega arith)
numbered_at runs (line ∷ lines) place (suc at) h = numbered_at runs lines (place + 1) at (omega (arith, h))
    ∙ ap (λ (p : ℕ). Some (number_at runs p)) (omega arith)

pub line_at : (runs : List Run) (lines : List Line) (at : ℕ) → at < length lines
    → slice_get (map (λ (line : ℕ × Line). line.0) (with_numbers runs lines)) at ≡ Some (number_at runs at)
line_at runs lines at h = numbered_at runs lines 0 at h ∙ ap (λ (p : ℕ). Some (number_at runs p)) (omega arith)

-- ---- halving

abbrev pub begins_by : ℕ → Run → Bool
begins_by place run = nat_le run.place place

first_place : (runs : List Run) (from end at : ℕ) (d : Run) → Ascend from runs end → at < length runs → from ≤ (get_or runs at d).place
first_place [] from end at d is h = absurd (omega (arith, h))
first_place (run ∷ runs) from end zero d is h = is.0
first_place (run ∷ runs) from end (suc at) d is h = let more = first_place runs (run.place + 1) end at d is.1 (omega (arith, h)) in omega
    (arith, is.0, more)

pub runs_are_parted : (runs : List Run) (from end place : ℕ) → Ascend from runs end → IsPartitionedBy (begins_by place) runs
runs_are_parted [] from end place is i j d h k begins = absurd (omega (arith, k))
runs_are_parted (run ∷ runs) from end place is zero zero d h k begins = begins
runs_are_parted (run ∷ runs) from end place is zero (suc j) d h k begins =
    let more = first_place runs (run.place + 1) end j d is.1 (omega (arith, k)) in grind (arith, nat_tests, more, begins)
runs_are_parted (run ∷ runs) from end place is (suc i) zero d h k begins = absurd (omega (arith, h))
runs_are_parted (run ∷ runs) from end place is (suc i) (suc j) d h k begins = runs_are_parted runs (run.place + 1) end place is.1 i j d
    (omega (arith, h)) (omega (arith, k)) begins

none_begins : (runs : List Run) (number place : ℕ) → ((k : ℕ) (d : Run) → k < length runs → begins_by place (get_or runs k d) ≡ false)
    → number_from number runs place ≡ number
none_begins [] number place none = refl
none_begins (run ∷ runs) number place none =
    ap (λ (n : ℕ). number_from n runs place) (cond-false (nat_le run.place place) _ _ (none 0 run (omega arith)))
    ∙ none_begins runs number place (λ k d h. none (suc k) d (omega (arith, h)))

last_begins : (runs : List Run) (at number place : ℕ) (d : Run)
    → ((k : ℕ) (d : Run) → k < at + 1 → begins_by place (get_or runs k d) ≡ true)
    → ((k : ℕ) (d : Run) → at + 1 ≤ k → k < length runs → begins_by place (get_or runs k d) ≡ false) → at < length runs
    → number_from number runs place ≡ (get_or runs at d).number + (place - (get_or runs at d).place)
last_begins [] at number place d begin none h = absurd (omega (arith, h))
last_begins (run ∷ runs) zero number place d begin none h =
    none_begins runs (number_by place number run) place (λ k d i. none (suc k) d (omega (arith, i)) (omega (arith, i)))
    ∙ cond-true (nat_le run.place place) _ _ (begin 0 run (omega arith))
last_begins (run ∷ runs) (suc at) number place d begin none h =
    last_begins runs at (number_by place number run) place d (λ k d i. begin (suc k) d (omega (arith, i)))
    (λ k d i j. none (suc k) d (omega (arith, i)) (omega (arith, j))) (omega (arith, h))

module _ (runs : List Run) (place at : ℕ)
    (parted : IsPartitionPoint (λ run. begins_by place run ≡ true) (λ run. begins_by place run ≡ false) runs at) where
  pub in_no_run : at ≡ 0 → number_at runs place ≡ place + 1
  in_no_run is = none_begins runs (place + 1) place (λ k d h. parted.1 k d (omega (arith, is)) h)

  pub in_run : (d : Run) → 0 < at → at ≤ length runs
      → number_at runs place ≡ (get_or runs (at - 1) d).number + (place - (get_or runs (at - 1) d).place)
  in_run d some within =
      last_begins runs (at - 1) (place + 1) place d (λ k d h. parted.0 k d (omega arith) (omega (arith, h, some)))
      (λ k d h i. parted.1 k d (omega (arith, h)) i) (omega (arith, some, within))

  pub begun_there : (d : Run) → 0 < at → (get_or runs (at - 1) d).place ≤ place
  begun_there d some = let begins = parted.0 (at - 1) d (omega arith) (omega (arith, some)) in grind (arith, nat_tests, begins)
