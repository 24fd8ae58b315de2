-- Tests over lists that were filtered, and over lists into which others were placed.
use Rattle.std.proofs.Common.{◌≡◌, ◌+◌, List, [], ◌∷◌, Bool, true, false, cond, length, suc, refl, ap, sym, ◌∙◌, arith}
use Rattle.std.specs.Prelude.{not, ◌&&◌, ◌||◌}
use Rattle.std.specs.List.{filter, list_any, list_all}
pub use Rattle.std.proofs.lemmas.Bool.{eqb-true as same_number}
use Rattle.std.proofs.Math.Bool.{or-true, and-true, and-false}
use Rattle.pb_keys.proofs.Tests.{both_groups, either_groups, either_swaps, or_false}
use Rattle.pb_version.specs.Edited.{placed, all_placed}

-- ---- booleans

and_swapped : (a b c : Bool) → (a && (b && c)) ≡ (b && (a && c))
and_swapped true true c = refl
and_swapped true false c = refl
and_swapped false true c = refl
and_swapped false false c = refl

or_of_ands : (a b c : Bool) → ((a && c) || (b && c)) ≡ ((a || b) && c)
or_of_ands true b true = refl
or_of_ands true b false = and-false b
or_of_ands false b c = refl

pub left : (a b : Bool) → (a && b) ≡ true → a ≡ true
left true b e = refl
left false b e = e

pub right : (a b : Bool) → (a && b) ≡ true → b ≡ true
right true b e = e
right false b e = cc

-- ---- filtered lists

pub list_all_filter : {X : Type 0} (q g : X → Bool) (xs : List X) → list_all q (filter (λ x. not (g x)) xs) ≡ list_all (λ x. q x || g x) xs
list_all_filter q g [] = refl
list_all_filter q g (x ∷ xs) =
    elim (g x) as (λ b. list_all q (cond (not b) (x ∷ filter (λ y. not (g y)) xs) (filter (λ y. not (g y)) xs)) ≡ ((q x || b) && list_all (λ y. q y || g y) xs)) [
      | true ↦ list_all_filter q g xs ∙ sym (ap (λ b. b && list_all (λ y. q y || g y) xs) (or-true (q x)))
      | false ↦ λ i. sym (or_false (q x)) i && list_all_filter q g xs i
    ]

pub list_any_filter : {X : Type 0} (q g : X → Bool) (xs : List X) → list_any q (filter (λ x. not (g x)) xs) ≡ list_any (λ x. q x && not (g x)) xs
list_any_filter q g [] = refl
list_any_filter q g (x ∷ xs) =
    elim (g x) as (λ b. list_any q (cond (not b) (x ∷ filter (λ y. not (g y)) xs) (filter (λ y. not (g y)) xs)) ≡ ((q x && not b) || list_any (λ y. q y && not (g y)) xs)) [
      | true ↦ list_any_filter q g xs ∙ sym (ap (λ b. b || list_any (λ y. q y && not (g y)) xs) (and-false (q x)))
      | false ↦ λ i. sym (and-true (q x)) i || list_any_filter q g xs i
    ]

pub list_any_and : {X : Type 0} (q : X → Bool) (c : Bool) (xs : List X) → list_any (λ x. q x && c) xs ≡ (list_any q xs && c)
list_any_and q c [] = refl
list_any_and q c (x ∷ xs) = ap (λ b. (q x && c) || b) (list_any_and q c xs) ∙ or_of_ands (q x) (list_any q xs) c

pub filter_all : {X : Type 0} (p : X → Bool) (xs : List X) → list_all p xs ≡ true → filter p xs ≡ xs
filter_all p [] e = refl
filter_all p (x ∷ xs) e =
    ap (λ b. cond b (x ∷ filter p xs) (filter p xs)) (left (p x) (list_all p xs) e)
    ∙ ap (λ ys. x ∷ ys) (filter_all p xs (right (p x) (list_all p xs) e))

-- two tests that agree where a third holds
pub list_all_same : {X : Type 0} (h q r : X → Bool) → ((x : X) → h x ≡ true → q x ≡ r x) → (xs : List X) → list_all h xs ≡ true → list_all q xs ≡ list_all r xs
list_all_same h q r same [] e = refl
list_all_same h q r same (x ∷ xs) e = λ i.
    same x (left (h x) (list_all h xs) e) i && list_all_same h q r same xs (right (h x) (list_all h xs) e) i

-- ---- lists into which others were placed

pub list_all_placed : {X : Type 0} (q : X → Bool) (f : X → X → Bool) (x : X) (ys : List X) → list_all q (placed f x ys) ≡ (q x && list_all q ys)
list_all_placed q f x [] = refl
list_all_placed q f x (y ∷ ys) =
    elim (f x y) as (λ b. list_all q (cond b (x ∷ y ∷ ys) (y ∷ placed f x ys)) ≡ (q x && (q y && list_all q ys))) [
      | true ↦ refl
      | false ↦ ap (λ b. q y && b) (list_all_placed q f x ys) ∙ and_swapped (q y) (q x) (list_all q ys)
    ]

pub list_all_all_placed : {X : Type 0} (q : X → Bool) (f : X → X → Bool) (xs ys : List X) → list_all q (all_placed f xs ys) ≡ (list_all q xs && list_all q ys)
list_all_all_placed q f [] ys = refl
list_all_all_placed q f (x ∷ xs) ys =
    list_all_placed q f x (all_placed f xs ys)
    ∙ ap (λ b. q x && b) (list_all_all_placed q f xs ys)
    ∙ sym (both_groups (q x) (list_all q xs) (list_all q ys))

list_any_placed : {X : Type 0} (q : X → Bool) (f : X → X → Bool) (x : X) (ys : List X) → list_any q (placed f x ys) ≡ (q x || list_any q ys)
list_any_placed q f x [] = refl
list_any_placed q f x (y ∷ ys) =
    elim (f x y) as (λ b. list_any q (cond b (x ∷ y ∷ ys) (y ∷ placed f x ys)) ≡ (q x || (q y || list_any q ys))) [
      | true ↦ refl
      | false ↦ ap (λ b. q y || b) (list_any_placed q f x ys) ∙ either_swaps (q y) (q x) (list_any q ys)
    ]

pub list_any_all_placed : {X : Type 0} (q : X → Bool) (f : X → X → Bool) (xs ys : List X) → list_any q (all_placed f xs ys) ≡ (list_any q xs || list_any q ys)
list_any_all_placed q f [] ys = refl
list_any_all_placed q f (x ∷ xs) ys =
    list_any_placed q f x (all_placed f xs ys)
    ∙ ap (λ b. q x || b) (list_any_all_placed q f xs ys)
    ∙ sym (either_groups (q x) (list_any q xs) (list_any q ys))

length_placed : {X : Type 0} (f : X → X → Bool) (x : X) (ys : List X) → length (placed f x ys) ≡ suc (length ys)
length_placed f x [] = refl
length_placed f x (y ∷ ys) =
    elim (f x y) as (λ b. length (cond b (x ∷ y ∷ ys) (y ∷ placed f x ys)) ≡ suc (suc (length ys))) [
      | true ↦ refl
      | false ↦ ap suc (length_placed f x ys)
    ]

pub length_all_placed : {X : Type 0} (f : X → X → Bool) (xs ys : List X) → length (all_placed f xs ys) ≡ length xs + length ys
length_all_placed f [] ys = omega arith
length_all_placed f (x ∷ xs) ys = omega (arith, length_placed f x (all_placed f xs ys), length_all_placed f xs ys)

pub always : {X : Type 0} (xs : List X) → list_all (λ x. true) xs ≡ true
always [] = refl
always (x ∷ xs) = always xs
