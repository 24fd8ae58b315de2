-- Numbers that a part hasn't used are spent, and nothing else of it changes.
use Rattle.std.proofs.Common.{◌≡◌, ℕ, ◌+◌, ◌<◌, zero, suc, Bool, true, false, List, [], ◌∷◌, ◌++◌, refl, ap, ◌∙◌, subst, cond, arith}
use Rattle.std.specs.Prelude.{◌==◌, ◌||◌, ◌&&◌, nat_eq, nat_le, nat_lt}
use Rattle.std.specs.List.{filter, list_all, list_any, range_with_len, IsDistinct, AllByRecursion}
use Rattle.std.proofs.lemmas.Bool.{and_from, eqb-true}
use Rattle.std.proofs.lemmas.Bool.Decides.{nat_tests}
use Rattle.pb_marker_world.specs.Calls.{CrashIsLast, bucket_steps, is_crash}
use Rattle.pb_marker_world.specs.Machine.{Local, Part}
use Rattle.pb_marker_world.specs.Spending.{spend_each, with_all_used}
use Rattle.pb_marker_world.specs.Steps.{Reaches, Step, with_part}
use Rattle.pb_marker_world.specs.Steps.Step.{Crashes}
use Rattle.pb_marker_world.proofs.Lists.{list_any-filter}
use Rattle.pb_marker_world.proofs.StepLists.{spent_each}

pub same_part : (p q : Part) → p.opening ≡ q.opening → ((k : ℕ) → p.used k ≡ q.used k) → ((k : ℕ) → p.entries k ≡ q.entries k) → p ≡ q
same_part p q a b c = λ i. record { opening = a i; used = λ k. b k i; entries = λ k. c k i }

-- ---- a range, filtered

kept_all : (P : ℕ → Type 0) (p : ℕ → Bool) (ns : List ℕ) → AllByRecursion P ns → AllByRecursion P (filter p ns)
kept_all P p [] h = tt
kept_all P p (n ∷ ns) h = of_cond (p n) (kept_all P p ns h.1)
  where
    of_cond : (b : Bool) → AllByRecursion P (filter p ns) → AllByRecursion P (cond b (n ∷ filter p ns) (filter p ns))
    of_cond true rest = (h.0, rest)
    of_cond false rest = rest

above : (a b n : ℕ) → a < b → AllByRecursion (λ k. nat_eq a k ≡ false) (range_with_len b n)
above a b zero h = tt
above a b (suc n) h = (apart, above a (b + 1) n (omega (arith, h)))
  where
    apart : nat_eq a b ≡ false
    apart = grind (arith, nat_tests)

distinct : (p : ℕ → Bool) (a n : ℕ) → IsDistinct nat_eq (filter p (range_with_len a n))
unfolding IsDistinct
distinct p a zero = tt
distinct p a (suc n) =
    of_cond (p a) (kept_all (λ k. nat_eq a k ≡ false) p (range_with_len (a + 1) n) (above a (a + 1) n (omega arith))) (distinct p (a + 1) n)
  where
    of_cond : (b : Bool) → AllByRecursion (λ k. nat_eq a k ≡ false) (filter p (range_with_len (a + 1) n))
        → IsDistinct nat_eq (filter p (range_with_len (a + 1) n))
        → IsDistinct nat_eq (cond b (a ∷ filter p (range_with_len (a + 1) n)) (filter p (range_with_len (a + 1) n)))
    of_cond true apart others = (apart, others)
    of_cond false apart others = others

one_more : (a n k : ℕ) → ((a == k) || (nat_le (a + 1) k && nat_lt k (a + 1 + n))) ≡ (nat_le a k && nat_lt k (a + suc n))
one_more a n k = grind (arith, nat_tests)

none_left : (a k : ℕ) → false ≡ (nat_le a k && nat_lt k (a + 0))
none_left a k = grind (arith, nat_tests)

in_range : (a n k : ℕ) → list_any (λ m. m == k) (range_with_len a n) ≡ (nat_le a k && nat_lt k (a + n))
in_range a zero k = none_left a k
in_range a (suc n) k = ap (λ x. (a == k) || x) (in_range (a + 1) n k) ∙ one_more a n k

from_zero : (n k : ℕ) → (nat_le 0 k && nat_lt k (0 + n)) ≡ nat_lt k n
from_zero n k = grind (arith, nat_tests)

-- a number is among those that pass the test
pub among : (p : ℕ → Bool) (ns : List ℕ) (k : ℕ) → list_any (λ m. m == k) (filter p ns) ≡ (p k && list_any (λ m. m == k) ns)
among p ns k = list_any-filter (λ m. m == k) p (p k) (λ x e. ap p (eqb-true x k e)) ns

among_first : (p : ℕ → Bool) (n k : ℕ) → list_any (λ m. m == k) (filter p (range_with_len 0 n)) ≡ (p k && nat_lt k n)
among_first p n k = among p (range_with_len 0 n) k ∙ ap (λ x. p k && x) (in_range 0 n k ∙ from_zero n k)

-- what each that passes the one test passes, all of them do
pub all_kept : (p q : ℕ → Bool) → ((n : ℕ) → p n ≡ true → q n ≡ true) → (ns : List ℕ) → list_all q (filter p ns) ≡ true
all_kept p q h [] = refl
all_kept p q h (n ∷ ns) = of_cond (p n) refl (all_kept p q h ns)
  where
    of_cond : (b : Bool) → p n ≡ b → list_all q (filter p ns) ≡ true → list_all q (cond b (n ∷ filter p ns) (filter p ns)) ≡ true
    of_cond true e rest = and_from (q n) (list_all q (filter p ns)) (h n e) rest
    of_cond false e rest = rest

-- ---- steps

-- the numbers below an end that pass a test are spent, where none of them is used; what is used then is what was, and these
pub spent_to : (store end : ℕ) (p used : ℕ → Bool) (l : Local) → ((k : ℕ) → l.part.used k ≡ true → p k ≡ false)
    → ((k : ℕ) → ((p k && nat_lt k end) || l.part.used k) ≡ used k)
    → Reaches store l (spend_each (filter p (range_with_len 0 end)))
    (with_part l (record { opening = l.part.opening; used = used; entries = l.part.entries }))
spent_to store end p used l unused same =
    let numbers : List ℕ = filter p (range_with_len 0 end) in
    let part : Part = record { opening = l.part.opening; used = used; entries = l.part.entries } in
    let left : with_all_used l.part numbers ≡ part =
    same_part (with_all_used l.part numbers) part refl (λ k. ap (λ x. x || l.part.used k) (among_first p end k) ∙ same k) (λ k. refl) in
    subst (λ (x : Part). Reaches store l (spend_each numbers) (with_part l x)) left
    (spent_each store numbers l (distinct p 0 end) (list_any-filter l.part.used p false unused (range_with_len 0 end)))

pub spends_are_quiet : (numbers : List ℕ) (more : List Step) → bucket_steps more ≡ [] → bucket_steps (spend_each numbers ++ more) ≡ []
spends_are_quiet [] more h = h
spends_are_quiet (n ∷ ns) more h = spends_are_quiet ns more h

pub spends_are_no_calls : (numbers : List ℕ) → bucket_steps (spend_each numbers) ≡ []
spends_are_no_calls [] = refl
spends_are_no_calls (n ∷ ns) = spends_are_no_calls ns

pub spends_are_no_crash : (numbers : List ℕ) → list_any is_crash (spend_each numbers) ≡ false
spends_are_no_crash [] = refl
spends_are_no_crash (n ∷ ns) = spends_are_no_crash ns

pub crash_is_last : (numbers kept : List ℕ) → CrashIsLast (spend_each numbers ++ Crashes kept ∷ [])
crash_is_last [] kept = tt
crash_is_last (n ∷ []) kept = (refl, tt)
crash_is_last (n ∷ m ∷ ns) kept = (refl, crash_is_last (m ∷ ns) kept)
