-- The order of bytes: what `<` and `<=` answer, and how it chains.
use Rattle.std.proofs.Common.{◌≡◌, ℕ, List, [], ◌∷◌, ◌++◌, zero, suc, true, false, sym, ap, ◌∙◌, refl, arith}
use Rattle.std.proofs.lemmas.Bool.Decides.{nat_tests}
use Rattle.std.specs.Prelude.{not, Some}
use Rattle.std.specs.declared.cmp.Ordering.{Ordering}
use Rattle.std.specs.declared.cmp.Ordering.TheVariants.{Less, Equal, Greater}
use Rattle.std.specs.Cmp.{alike_right, nat_cmp_total, tied_itself}
use Rattle.std.specs.Cmp.Lexicographic.{slice_partial_cmp, lists_agrees, nat_list_cmp_total}
use Rattle.std.specs.Ordering.{nat_cmp, is_lt, is_le, is_some_and, ordering_reverse, ordering_then}
use Rattle.pb_keys.specs.Order.{bytes_cmp, is_below, is_upto, end_above, LeastAbove}
use Rattle.pb_keys.specs.KeyLaws.{bytes_cmp_exact}

-- what `<` answers
pub lt-is_below : (a b : List ℕ) → is_some_and is_lt (slice_partial_cmp (λ x y. Some (nat_cmp x y)) a b) ≡ is_below a b
lt-is_below a b = ap (is_some_and is_lt) (lists_agrees (λ x y. refl) a b)

turned_le : (o : Ordering) → is_le o ≡ not (is_lt (ordering_reverse o))
turned_le Less = refl
turned_le Equal = refl
turned_le Greater = refl

le-is_upto_cmp : (a b : List ℕ) → is_le (bytes_cmp a b) ≡ is_upto a b
le-is_upto_cmp a b = turned_le (bytes_cmp a b) ∙ ap (λ o. not (is_lt o)) (sym (nat_list_cmp_total.antisymm b a))

-- what `<=` answers
pub le-is_upto : (a b : List ℕ) → is_some_and is_le (slice_partial_cmp (λ x y. Some (nat_cmp x y)) a b) ≡ is_upto a b
le-is_upto a b = ap (is_some_and is_le) (lists_agrees (λ x y. refl) a b) ∙ le-is_upto_cmp a b

pub ruleset compares = (lt-is_below, le-is_upto)

-- ---- the laws of a total order, by `is_below`: `is_below b a ≡ false` says that a is at most b

pub less : (o : Ordering) → is_lt o ≡ true → o ≡ Less
less Less h = refl
less Equal h = cc
less Greater h = cc

turned_less : (o : Ordering) → o ≡ Less → is_lt (ordering_reverse o) ≡ false
turned_less o h = ap (λ p. is_lt (ordering_reverse p)) h

pub below_itself : (a : List ℕ) → is_below a a ≡ false
below_itself a = ap is_lt (tied_itself nat_list_cmp_total a)

pub below_one_way : (a b : List ℕ) → is_below a b ≡ true → is_below b a ≡ false
below_one_way a b h = ap is_lt (nat_list_cmp_total.antisymm b a) ∙ turned_less (bytes_cmp a b) (less (bytes_cmp a b) h)

pub below_chain : (a b c : List ℕ) → is_below a b ≡ true → is_below b c ≡ true → is_below a c ≡ true
below_chain a b c h k = ap is_lt (nat_list_cmp_total.trans a b c (less (bytes_cmp a b) h) (less (bytes_cmp b c) k))

-- a <= b < c
pub upto_below : (a b c : List ℕ) → is_below b a ≡ false → is_below b c ≡ true → is_below a c ≡ true
upto_below a b c h k =
    elim (bytes_cmp b a) as (λ o. bytes_cmp b a ≡ o → is_lt o ≡ false → is_below a c ≡ true) [
      | Less ↦ λ e g. cc
      | Equal ↦ λ e g. ap is_lt (sym (nat_list_cmp_total.congr b a c e)) ∙ k
      | Greater ↦ λ e g. below_chain a b c (ap is_lt (nat_list_cmp_total.antisymm a b ∙ ap ordering_reverse e)) k
    ] refl h

-- a < b <= c
pub below_upto : (a b c : List ℕ) → is_below a b ≡ true → is_below c b ≡ false → is_below a c ≡ true
below_upto a b c h k =
    elim (bytes_cmp c b) as (λ o. bytes_cmp c b ≡ o → is_lt o ≡ false → is_below a c ≡ true) [
      | Less ↦ λ e g. cc
      | Equal ↦ λ e g. ap is_lt (alike_right nat_list_cmp_total c b a e) ∙ h
      | Greater ↦ λ e g. below_chain a b c h (ap is_lt (nat_list_cmp_total.antisymm b c ∙ ap ordering_reverse e))
    ] refl k

-- a <= b <= c
pub upto_chain : (a b c : List ℕ) → is_below b a ≡ false → is_below c b ≡ false → is_below c a ≡ false
upto_chain a b c h k =
    elim (is_below c a) as (λ t. is_below c a ≡ t → t ≡ false) [
      | true ↦ λ e. let below : is_below b a ≡ true = upto_below b c a k e in cc
      | false ↦ λ e. refl
    ] refl

pub same_bytes : (a b : List ℕ) → is_below a b ≡ false → is_below b a ≡ false → a ≡ b
same_bytes a b h k =
    elim (bytes_cmp a b) as (λ o. bytes_cmp a b ≡ o → is_lt o ≡ false → a ≡ b) [
      | Less ↦ λ e g. cc
      | Equal ↦ λ e g. bytes_cmp_exact a b e
      | Greater ↦ λ e g. let below : is_below b a ≡ true = ap is_lt (nat_list_cmp_total.antisymm b a ∙ ap ordering_reverse e) in cc
    ] refl h

-- ---- p followed by a zero byte

turned_then : (o a b : Ordering) → is_lt a ≡ not (is_lt b) → is_lt (ordering_then o a) ≡ not (is_lt (ordering_then (ordering_reverse o) b))
turned_then Less a b h = refl
turned_then Equal a b h = h
turned_then Greater a b h = refl

above_zero : (y : ℕ) → nat_cmp (suc y) 0 ≡ Greater
above_zero y = grind (arith, nat_tests)

none_below_zero : (y : ℕ) (o : Ordering) → is_lt o ≡ false → is_lt (ordering_then (nat_cmp y 0) o) ≡ false
none_below_zero zero o h = h
none_below_zero (suc y) o h = ap (λ r. is_lt (ordering_then r o)) (above_zero y)

pub none_below_none : (ys : List ℕ) → is_below ys [] ≡ false
none_below_none [] = refl
none_below_none (y ∷ ys) = refl

-- q is below p followed by a zero byte exactly where q is at most p
pub below-end_above : (q p : List ℕ) → is_below q (end_above p) ≡ is_upto q p
below-end_above [] [] = refl
below-end_above [] (x ∷ xs) = refl
below-end_above (y ∷ ys) [] = none_below_zero y (bytes_cmp ys []) (none_below_none ys)
below-end_above (y ∷ ys) (x ∷ xs) =
    turned_then (nat_cmp y x) (bytes_cmp ys (end_above xs)) (bytes_cmp xs ys) (below-end_above ys xs)
    ∙ ap (λ o. not (is_lt (ordering_then o (bytes_cmp xs ys)))) (sym (nat_cmp_total.antisymm x y))

pub least_end_above : (p : List ℕ) → LeastAbove p (end_above p)
least_end_above p = record { above = below-end_above p p ∙ ap not (below_itself p); least = λ q h. sym (below-end_above q p) ∙ h }

-- ---- behind the same bytes

pub bytes_cmp-behind : (front a b : List ℕ) → bytes_cmp (front ++ a) (front ++ b) ≡ bytes_cmp a b
bytes_cmp-behind [] a b = refl
bytes_cmp-behind (x ∷ xs) a b = ap (λ o. ordering_then o (bytes_cmp (xs ++ a) (xs ++ b))) (tied_itself nat_cmp_total x) ∙ bytes_cmp-behind xs a b
