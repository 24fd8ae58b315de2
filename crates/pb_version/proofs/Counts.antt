-- How many of a list pass a test, and lists of which as many pass each.
use Rattle.std.proofs.Common.{◌≡◌, ℕ, ◌+◌, ◌≤◌, List, [], ◌∷◌, ◌++◌, Bool, true, false, cond, length, suc, zero, refl, ap, sym, ◌∙◌, subst, arith, eq-eqb}
use Rattle.std.proofs.lemmas.Bool.Decides.{nat_tests}
use Rattle.std.specs.Prelude.{not, ◌==◌, ◌&&◌, ◌||◌, nat_lt, map}
use Rattle.std.specs.List.{filter, list_any, list_all, AllByRecursion}
use Rattle.std.proofs.lemmas.Bool.{eqb-true}
use Rattle.pb_version.specs.Version.{TableView, flattened}
use Rattle.pb_version.specs.Edited.{placed, all_placed, comes_before, each_level}
use Rattle.pb_version.specs.Rules.{each_pair}
use Rattle.pb_version.specs.State.{other_number}
use Rattle.pb_version.specs.Judged.{seven, total}
use Rattle.pb_version.proofs.Lists.{left, right}
use Rattle.pb_version.proofs.Levels.{flattened_cons}

abbrev pub one_if : Bool → ℕ
one_if b = cond b 1 0

abbrev pub count : {X : Type 0} → (X → Bool) → List X → ℕ
count q [] = 0
count q (x ∷ xs) = one_if (q x) + count q xs

-- as many of both pass each test
abbrev pub Same : {X : Type 0} → List X → List X → Type 0
Same {X} xs ys = (q : X → Bool) → count q xs ≡ count q ys

pub count_append : {X : Type 0} (q : X → Bool) (xs ys : List X) → count q (xs ++ ys) ≡ count q xs + count q ys
count_append q [] ys = omega arith
count_append q (x ∷ xs) ys = omega (arith, count_append q xs ys)

count_placed : {X : Type 0} (q : X → Bool) (f : X → X → Bool) (x : X) (ys : List X) → count q (placed f x ys) ≡ one_if (q x) + count q ys
count_placed q f x [] = refl
count_placed q f x (y ∷ ys) =
    elim (f x y) as (λ b. count q (cond b (x ∷ y ∷ ys) (y ∷ placed f x ys)) ≡ one_if (q x) + (one_if (q y) + count q ys)) [
      | true ↦ refl
      | false ↦ omega (arith, count_placed q f x ys)
    ]

pub count_all_placed : {X : Type 0} (q : X → Bool) (f : X → X → Bool) (xs ys : List X) → count q (all_placed f xs ys) ≡ count q xs + count q ys
count_all_placed q f [] ys = omega arith
count_all_placed q f (x ∷ xs) ys = omega (arith, count_placed q f x (all_placed f xs ys), count_all_placed q f xs ys)

pub count_map : {X Y : Type 0} (q : Y → Bool) (g : X → Y) (xs : List X) → count q (map g xs) ≡ count (λ x. q (g x)) xs
count_map q g [] = refl
count_map q g (x ∷ xs) = ap (λ n. one_if (q (g x)) + n) (count_map q g xs)

pub count_flattened : {X : Type 0} (q : X → Bool) (xss : List (List X)) → count q (flattened xss) ≡ total (map (count q) xss)
count_flattened q [] = refl
count_flattened q (xs ∷ xss) = ap (count q) (flattened_cons xs xss) ∙ count_append q xs (flattened xss) ∙ ap (λ n. count q xs + n) (count_flattened q xss)

-- ---- tests by counts

none_count : (b : Bool) (n : ℕ) → (b && (n == 0)) ≡ ((one_if (not b) + n) == 0)
none_count true n = let z : n ≡ 0 + n = omega arith in ap (λ m. m == 0) z
none_count false n = grind (arith, nat_tests)

pub all_count : {X : Type 0} (q : X → Bool) (xs : List X) → list_all q xs ≡ (count (λ x. not (q x)) xs == 0)
all_count q [] = refl
all_count q (x ∷ xs) = ap (λ b. q x && b) (all_count q xs) ∙ none_count (q x) (count (λ y. not (q y)) xs)

some_count : (b : Bool) (n : ℕ) → (b || nat_lt 0 n) ≡ nat_lt 0 (one_if b + n)
some_count true n = grind (arith, nat_tests)
some_count false n = let z : n ≡ 0 + n = omega arith in ap (λ m. nat_lt 0 m) z

pub any_count : {X : Type 0} (q : X → Bool) (xs : List X) → list_any q xs ≡ nat_lt 0 (count q xs)
any_count q [] = refl
any_count q (x ∷ xs) = ap (λ b. q x || b) (any_count q xs) ∙ some_count (q x) (count q xs)

pub length_count : {X : Type 0} (xs : List X) → length xs ≡ count (λ x. true) xs
length_count [] = refl
length_count (x ∷ xs) = omega (arith, length_count xs)

pub same_all : {X : Type 0} (xs ys : List X) → Same xs ys → (q : X → Bool) → list_all q xs ≡ list_all q ys
same_all xs ys same q = all_count q xs ∙ ap (λ n. n == 0) (same (λ x. not (q x))) ∙ sym (all_count q ys)

pub same_any : {X : Type 0} (xs ys : List X) → Same xs ys → (q : X → Bool) → list_any q xs ≡ list_any q ys
same_any xs ys same q = any_count q xs ∙ ap (λ n. nat_lt 0 n) (same q) ∙ sym (any_count q ys)

pub same_length : {X : Type 0} (xs ys : List X) → Same xs ys → length xs ≡ length ys
same_length xs ys same = length_count xs ∙ same (λ x. true) ∙ sym (length_count ys)

-- ---- numbers of tables

abbrev pub with_number : ℕ → List TableView → ℕ
with_number n ts = count (λ (t : TableView). t.number == n) ts

pub none_with : (ts : List TableView) (n : ℕ) → list_all (λ (u : TableView). not (u.number == n)) ts ≡ true → with_number n ts ≡ 0
none_with [] n e = refl
none_with (u ∷ us) n e =
    elim (u.number == n) as (λ b. (not b && list_all (λ (w : TableView). not (w.number == n)) us) ≡ true → one_if b + with_number n us ≡ 0) [
      | true ↦ λ bad. cc
      | false ↦ λ k. omega (arith, none_with us n k)
    ] e

pub once : (ts : List TableView) → each_pair other_number ts ≡ true → (n : ℕ) → with_number n ts ≤ 1
once [] e n = omega arith
once (t ∷ ts) e n =
    elim (t.number == n) as (λ b. (t.number == n) ≡ b → one_if b + with_number n ts ≤ 1) [
      | true ↦ λ k. omega (arith, none_with ts n (subst (λ m. list_all (λ (u : TableView). not (u.number == m)) ts ≡ true) (eqb-true t.number n k) (left (list_all (other_number t) ts) (each_pair other_number ts) e)))
      | false ↦ λ k. omega (arith, once ts (right (list_all (other_number t) ts) (each_pair other_number ts) e) n)
    ] refl

no_more : (ts : List TableView) (n : ℕ) → with_number n ts ≡ 0 → list_all (λ (u : TableView). not (u.number == n)) ts ≡ true
no_more [] n e = refl
no_more (u ∷ us) n e =
    elim (u.number == n) as (λ b. one_if b + with_number n us ≡ 0 → (not b && list_all (λ (w : TableView). not (w.number == n)) us) ≡ true) [
      | true ↦ λ bad. absurd (omega arith)
      | false ↦ λ k. no_more us n (omega arith)
    ] e

pub once_each : (ts : List TableView) → ((n : ℕ) → with_number n ts ≤ 1) → each_pair other_number ts ≡ true
once_each [] few = refl
once_each (t ∷ ts) few =
    let here : one_if (t.number == t.number) + with_number t.number ts ≤ 1 = few t.number in
    let rest : with_number t.number ts ≡ 0 = omega (arith, ap one_if (eq-eqb t.number t.number refl)) in
    λ i. no_more ts t.number rest i && once_each ts (λ n. omega (arith, few n)) i

pub same_numbered : (ts us : List TableView) → Same ts us → each_pair other_number us ≡ true → each_pair other_number ts ≡ true
same_numbered ts us same e = once_each ts (λ n. omega (arith, same (λ (t : TableView). t.number == n), once us e n))

-- ---- each item is on one of seven levels

pub sum_two : (a b : ℕ → ℕ) → total (seven (λ l. a l + b l)) ≡ total (seven a) + total (seven b)
sum_two a b = omega arith

one_of_seven : (m c : ℕ) → m ≤ 6 → total (seven (λ l. cond (m == l) c 0)) ≡ c
one_of_seven zero c h = omega arith
one_of_seven (suc zero) c h = omega arith
one_of_seven (suc (suc zero)) c h = omega arith
one_of_seven (suc (suc (suc zero))) c h = omega arith
one_of_seven (suc (suc (suc (suc zero)))) c h = omega arith
one_of_seven (suc (suc (suc (suc (suc zero))))) c h = omega arith
one_of_seven (suc (suc (suc (suc (suc (suc zero)))))) c h = omega arith
one_of_seven (suc (suc (suc (suc (suc (suc (suc m))))))) c h = absurd (omega arith)

count_level : {X : Type 0} (level : X → ℕ) (q : X → Bool) (l : ℕ) (x : X) (xs : List X) →
    count q (filter (λ y. level y == l) (x ∷ xs)) ≡ cond (level x == l) (one_if (q x)) 0 + count q (filter (λ y. level y == l) xs)
count_level level q l x xs =
    elim (level x == l) as (λ b. count q (cond b (x ∷ filter (λ y. level y == l) xs) (filter (λ y. level y == l) xs)) ≡ cond b (one_if (q x)) 0 + count q (filter (λ y. level y == l) xs)) [
      | true ↦ refl
      | false ↦ omega arith
    ]

pub in_one_level : {X : Type 0} (level : X → ℕ) (q : X → Bool) (xs : List X) → AllByRecursion (λ x. level x ≤ 6) xs →
    total (seven (λ l. count q (filter (λ y. level y == l) xs))) ≡ count q xs
in_one_level level q [] all = refl
in_one_level level q (x ∷ xs) all =
    (λ i. total (seven (λ l. count_level level q l x xs i)))
    ∙ sum_two (λ l. cond (level x == l) (one_if (q x)) 0) (λ l. count q (filter (λ y. level y == l) xs))
    ∙ (λ i. one_of_seven (level x) (one_if (q x)) all.0 i + in_one_level level q xs all.1 i)

-- ---- the tables of all levels

pub count_levels : (q : TableView → Bool) (f g : ℕ → List TableView → List TableView) (k : ℕ) (ls : List (List TableView)) →
    count q (flattened (each_level (λ l ts. all_placed (comes_before l) (f l ts) (g l ts)) k ls)) ≡ count q (flattened (each_level f k ls)) + count q (flattened (each_level g k ls))
count_levels q f g k [] = omega arith
count_levels q f g k (ts ∷ ls) =
    let both = ap (count q) (flattened_cons (all_placed (comes_before k) (f k ts) (g k ts)) (each_level (λ l us. all_placed (comes_before l) (f l us) (g l us)) (k + 1) ls))
    ∙ count_append q (all_placed (comes_before k) (f k ts) (g k ts)) (flattened (each_level (λ l us. all_placed (comes_before l) (f l us) (g l us)) (k + 1) ls)) in
    let one = ap (count q) (flattened_cons (f k ts) (each_level f (k + 1) ls)) ∙ count_append q (f k ts) (flattened (each_level f (k + 1) ls)) in
    let other = ap (count q) (flattened_cons (g k ts) (each_level g (k + 1) ls)) ∙ count_append q (g k ts) (flattened (each_level g (k + 1) ls)) in
    omega (arith, both, one, other, count_all_placed q (comes_before k) (f k ts) (g k ts), count_levels q f g (k + 1) ls)

count_parts : {X : Type 0} (q g : X → Bool) (xs : List X) → count q xs ≡ count q (filter (λ x. not (g x)) xs) + count q (filter g xs)
count_parts q g [] = omega arith
count_parts q g (x ∷ xs) =
    elim (g x) as (λ b. one_if (q x) + count q xs ≡ count q (cond (not b) (x ∷ filter (λ y. not (g y)) xs) (filter (λ y. not (g y)) xs)) + count q (cond b (x ∷ filter g xs) (filter g xs))) [
      | true ↦ omega (arith, count_parts q g xs)
      | false ↦ omega (arith, count_parts q g xs)
    ]

-- those that stay and those that go
pub count_stays : (q : TableView → Bool) (g : ℕ → TableView → Bool) (k : ℕ) (ls : List (List TableView)) →
    count q (flattened ls) ≡ count q (flattened (each_level (λ l ts. filter (λ t. not (g l t)) ts) k ls)) + count q (flattened (each_level (λ l ts. filter (g l) ts) k ls))
count_stays q g k [] = omega arith
count_stays q g k (ts ∷ ls) =
    let both = ap (count q) (flattened_cons ts ls) ∙ count_append q ts (flattened ls) in
    let one = ap (count q) (flattened_cons (filter (λ t. not (g k t)) ts) (each_level (λ l us. filter (λ t. not (g l t)) us) (k + 1) ls))
    ∙ count_append q (filter (λ t. not (g k t)) ts) (flattened (each_level (λ l us. filter (λ t. not (g l t)) us) (k + 1) ls)) in
    let other = ap (count q) (flattened_cons (filter (g k) ts) (each_level (λ l us. filter (g l) us) (k + 1) ls))
    ∙ count_append q (filter (g k) ts) (flattened (each_level (λ l us. filter (g l) us) (k + 1) ls)) in
    omega (arith, both, one, other, count_parts q (g k) ts, count_stays q g (k + 1) ls)
