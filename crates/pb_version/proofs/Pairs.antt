-- Tests of pairs, over lists that were filtered and lists into which others were placed; numbers and places of tables.
use Rattle.std.proofs.Common.{◌≡◌, ℕ, List, [], ◌∷◌, ◌++◌, Bool, true, false, cond, refl, ap, sym, ◌∙◌, eq-eqb, arith}
use Rattle.std.proofs.lemmas.List.{map-append}
use Rattle.std.specs.Prelude.{not, ◌==◌, ◌&&◌, ◌||◌, map, nat_lt}
use Rattle.std.specs.List.{filter, list_any, list_all}
use Rattle.std.proofs.lemmas.Bool.{eqb-true}
use Rattle.std.proofs.Math.Bool.{and_comm}
use Rattle.std.proofs.lemmas.Bool.Decides.{nat_tests}
use Rattle.pb_edit.specs.Edit.{PhysicalItem, VirtualItem, CreatedItem}
use Rattle.pb_keys.specs.Order.{is_below}
use Rattle.pb_keys.specs.Span.{overlap}
use Rattle.pb_keys.proofs.Tests.{same_tests}
use Rattle.pb_version.specs.Version.{TableView}
use Rattle.pb_version.specs.Edited.{placed, all_placed, physical_table, virtual_table, tables_of}
use Rattle.pb_version.specs.Rules.{each_pair, are_apart, are_distinct, is_listed, has_number}
use Rattle.pb_version.specs.State.{other_number}
use Rattle.pb_version.proofs.Lists.{left, right, list_all_placed, list_all_all_placed}

pub number_turned : (m n : ℕ) → (m == n) ≡ (n == m)
number_turned m n = same_tests (m == n) (n == m) (λ e. eq-eqb n m (sym (eqb-true m n e))) (λ e. eq-eqb m n (sym (eqb-true n m e)))

not_or : (a b : Bool) → not (a || b) ≡ (not a && not b)
not_or true b = refl
not_or false b = refl

-- ---- filtered lists

pub filter_keeps : {X : Type 0} (q p : X → Bool) (xs : List X) → list_all q xs ≡ true → list_all q (filter p xs) ≡ true
filter_keeps q p [] e = refl
filter_keeps q p (x ∷ xs) e =
    elim (p x) as (λ b. list_all q (cond b (x ∷ filter p xs) (filter p xs)) ≡ true) [
      | true ↦ λ i. left (q x) (list_all q xs) e i && filter_keeps q p xs (right (q x) (list_all q xs) e) i
      | false ↦ filter_keeps q p xs (right (q x) (list_all q xs) e)
    ]

pub pairs_filter : {X : Type 0} (r : X → X → Bool) (p : X → Bool) (xs : List X) → each_pair r xs ≡ true → each_pair r (filter p xs) ≡ true
pairs_filter r p [] e = refl
pairs_filter r p (x ∷ xs) e =
    elim (p x) as (λ b. each_pair r (cond b (x ∷ filter p xs) (filter p xs)) ≡ true) [
      | true ↦ λ i. filter_keeps (r x) p xs (left (list_all (r x) xs) (each_pair r xs) e) i && pairs_filter r p xs (right (list_all (r x) xs) (each_pair r xs) e) i
      | false ↦ pairs_filter r p xs (right (list_all (r x) xs) (each_pair r xs) e)
    ]

pub weaker : {X : Type 0} (p q : X → Bool) → ((x : X) → p x ≡ true → q x ≡ true) → (xs : List X) → list_all p xs ≡ true → list_all q xs ≡ true
weaker p q gives [] e = refl
weaker p q gives (x ∷ xs) e = λ i. gives x (left (p x) (list_all p xs) e) i && weaker p q gives xs (right (p x) (list_all p xs) e) i

-- ---- lists into which others were placed

pub not_lower : (n : ℕ) → nat_lt n n ≡ false
not_lower n = grind (arith, nat_tests)

pub lower_differs : (m n : ℕ) → nat_lt m n ≡ true → not (n == m) ≡ true
lower_differs m n e = grind (arith, nat_tests)

pub and_crossed : (a b c d : Bool) → ((a && b) && (c && d)) ≡ ((a && c) && (b && d))
and_crossed true true c d = refl
and_crossed true false true d = refl
and_crossed true false false d = refl
and_crossed false b c d = refl

and_woven : (a b c d e : Bool) → ((a && b) && ((c && d) && e)) ≡ (((a && c) && (b && d)) && e)
and_woven true true c d e = refl
and_woven true false true d e = refl
and_woven true false false d e = refl
and_woven false b c d e = refl

module _ {X : Type 0} (r : X → X → Bool) (turned : (x y : X) → r x y ≡ r y x) (f : X → X → Bool) where
  pairs_placed : (x : X) (ys : List X) → each_pair r (placed f x ys) ≡ (list_all (r x) ys && each_pair r ys)
  pairs_placed x [] = refl
  pairs_placed x (y ∷ ys) =
      elim (f x y) as (λ b. each_pair r (cond b (x ∷ y ∷ ys) (y ∷ placed f x ys)) ≡ ((r x y && list_all (r x) ys) && (list_all (r y) ys && each_pair r ys))) [
        | true ↦ refl
        | false ↦
            (λ i. list_all_placed (r y) f x ys i && pairs_placed x ys i)
            ∙ ap (λ b. (b && list_all (r y) ys) && (list_all (r x) ys && each_pair r ys)) (turned y x)
            ∙ and_crossed (r x y) (list_all (r y) ys) (list_all (r x) ys) (each_pair r ys)
      ]

  pub pairs_all_placed : (xs ys : List X) → each_pair r (all_placed f xs ys) ≡ ((each_pair r xs && list_all (λ x. list_all (r x) ys) xs) && each_pair r ys)
  pairs_all_placed [] ys = refl
  pairs_all_placed (x ∷ xs) ys =
      pairs_placed x (all_placed f xs ys)
      ∙ (λ i. list_all_all_placed (r x) f xs ys i && pairs_all_placed xs ys i)
      ∙ and_woven (list_all (r x) xs) (list_all (r x) ys) (each_pair r xs) (list_all (λ y. list_all (r y) ys) xs) (each_pair r ys)

-- ---- tables

pub apart_turned : (level : ℕ) (t u : TableView) → are_apart level t u ≡ are_apart level u t
unfolding overlap
apart_turned level t u = λ i.
    (level == 0 && not (number_turned t.rank u.rank i))
    || not (and_comm (is_below t.view.bounds.lo u.view.bounds.hi) (is_below u.view.bounds.lo t.view.bounds.hi) i)

pub other_turned : (t u : TableView) → other_number t u ≡ other_number u t
other_turned t u = ap not (number_turned u.number t.number)

pub not_any : {X : Type 0} (p : X → Bool) (xs : List X) → not (list_any p xs) ≡ list_all (λ x. not (p x)) xs
not_any p [] = refl
not_any p (x ∷ xs) = not_or (p x) (list_any p xs) ∙ ap (λ b. not (p x) && b) (not_any p xs)

-- a number that no table has
pub others : (ts : List TableView) (t : TableView) → not (has_number ts t.number) ≡ list_all (other_number t) ts
others ts t = not_any (λ (u : TableView). u.number == t.number) ts

listed_numbers : (ts : List TableView) (n : ℕ) → is_listed (map (λ (t : TableView). t.number) ts) n ≡ has_number ts n
listed_numbers [] n = refl
listed_numbers (t ∷ ts) n = ap (λ b. t.number == n || b) (listed_numbers ts n)

pub distinct_numbers : (ts : List TableView) → are_distinct (map (λ (t : TableView). t.number) ts) ≡ each_pair other_number ts
distinct_numbers [] = refl
distinct_numbers (t ∷ ts) = λ i. (ap not (listed_numbers ts t.number) ∙ others ts t) i && distinct_numbers ts i

numbers_of_physical : (ps : List PhysicalItem) → map (λ (t : TableView). t.number) (map physical_table ps) ≡ map (λ (p : PhysicalItem). p.number) ps
numbers_of_physical [] = refl
numbers_of_physical (p ∷ ps) = ap (λ ns. p.number ∷ ns) (numbers_of_physical ps)

numbers_of_virtual : (shown : List CreatedItem) (vs : List VirtualItem) → map (λ (t : TableView). t.number) (map (virtual_table shown) vs) ≡ map (λ (v : VirtualItem). v.number) vs
numbers_of_virtual shown [] = refl
numbers_of_virtual shown (v ∷ vs) = ap (λ ns. v.number ∷ ns) (numbers_of_virtual shown vs)

pub numbers_of : (shown : List CreatedItem) (ps : List PhysicalItem) (vs : List VirtualItem) →
    map (λ (t : TableView). t.number) (tables_of shown ps vs) ≡ map (λ (p : PhysicalItem). p.number) ps ++ map (λ (v : VirtualItem). v.number) vs
numbers_of shown ps vs =
    map-append (λ (t : TableView). t.number) (map physical_table ps) (map (virtual_table shown) vs)
    ∙ (λ i. numbers_of_physical ps i ++ numbers_of_virtual shown vs i)
