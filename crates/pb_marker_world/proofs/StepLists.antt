-- Lists of one store's steps: behind one another, and of spends alone.
use Rattle.std.proofs.Common.{◌≡◌, ℕ, ◌+◌, ◌-◌, ◌≤◌, ◌<◌, zero, suc, Bool, true, false, List, [], ◌∷◌, ◌++◌, refl, sym, ap, ◌∙◌, subst, arith}
use Rattle.std.specs.Prelude.{◌==◌, ◌||◌, ◌&&◌, nat_eq, nat_le, nat_lt}
use Rattle.std.specs.List.{list_any, range_with_len, IsDistinct, AllByRecursion}
use Rattle.std.proofs.lemmas.Bool.{or_parts, or_from, eqb-true, eq-eqb}
use Rattle.std.proofs.lemmas.Bool.Decides.{nat_tests}
use Rattle.pb_keys.proofs.Tests.{same_tests}
use Rattle.pb_marker_world.specs.Machine.{Part, Local}
use Rattle.pb_marker_world.specs.Steps.{Step, Happens, Reaches, ReachesThrough, with_part, with_used}
use Rattle.pb_marker_world.specs.Spending.{spend_each, spend_block, with_all_used, with_block_used}

pub joined : (store : ℕ) (l between after : Local) (steps more : List Step) → Reaches store l steps between
    → Reaches store between more after → Reaches store l (steps ++ more) after
joined store l between after [] more h k = subst (λ x. Reaches store x more after) h k
joined store l between after (step ∷ steps) more h k =
    record { between = h.between; first = h.first; rest = joined store h.between between after steps more h.rest k }

pub parted : (store : ℕ) (l after : Local) (steps more : List Step) → Reaches store l (steps ++ more) after
    → ReachesThrough store l steps more after
parted store l after [] more h = record { between = l; first = refl; rest = h }
parted store l after (step ∷ steps) more h =
    let u = parted store h.between after steps more h.rest in
    record { between = u.between; first = record { between = h.between; first = h.first; rest = u.first }; rest = u.rest }

pub one_step : (store : ℕ) (l after : Local) (step : Step) → Happens store l step after → Reaches store l (step ∷ []) after
one_step store l after step h = record { between = after; first = h; rest = refl }

pub only_step : (store : ℕ) (l after : Local) (step : Step) → Reaches store l (step ∷ []) after → Happens store l step after
only_step store l after step h = subst (λ x. Happens store l step x) (sym h.rest) h.first

-- ---- spends

part_used : (p q : Part) → p.opening ≡ q.opening → ((k : ℕ) → p.used k ≡ q.used k) → p.entries ≡ q.entries → p ≡ q
part_used p q a b c = λ i. record { opening = a i; used = λ k. b k i; entries = c i }

or_turned : (a b c d : Bool) → a ≡ d → (b || (a || c)) ≡ ((d || b) || c)
or_turned true true c d e = ap (λ x. (x || true) || c) e
or_turned true false c d e = ap (λ x. (x || false) || c) e
or_turned false true c true e = refl
or_turned false true c false e = refl
or_turned false false c d e = ap (λ x. (x || false) || c) e

swapped : (n k : ℕ) → (k == n) ≡ (n == k)
swapped n k = same_tests _ _ (λ x. eq-eqb n k (sym (eqb-true k n x))) (λ x. eq-eqb k n (sym (eqb-true n k x)))

-- the rest of the numbers is unused still, once one that differs from them is used
still_unused : (used : ℕ → Bool) (n : ℕ) (numbers : List ℕ) → AllByRecursion (λ k. nat_eq n k ≡ false) numbers
    → list_any used numbers ≡ false → list_any (λ k. (k == n) || used k) numbers ≡ false
still_unused used n [] apart unused = refl
still_unused used n (k ∷ ks) apart unused =
    let u = or_parts (used k) (list_any used ks) unused in
    or_from ((k == n) || used k) _ (or_from (k == n) (used k) (swapped n k ∙ apart.0) u.0) (still_unused used n ks apart.1 u.1)

pub spent_each : (store : ℕ) (numbers : List ℕ) (l : Local) → IsDistinct nat_eq numbers → list_any l.part.used numbers ≡ false
    → Reaches store l (spend_each numbers) (with_part l (with_all_used l.part numbers))
unfolding IsDistinct
spent_each store [] l apart unused = refl
spent_each store (n ∷ ns) l apart unused =
    let u = or_parts (l.part.used n) (list_any l.part.used ns) unused in
    let next = with_part l (with_used l.part n) in
    let same : with_part next (with_all_used next.part ns) ≡ with_part l (with_all_used l.part (n ∷ ns)) =
    ap (with_part l) (part_used _ _ refl
    (λ k. or_turned (k == n) (list_any (λ m. m == k) ns) (l.part.used k) (n == k) (swapped n k)) refl) in
    record {
      between = next;
      first = record { unused = u.0; left = refl };
      rest = subst (λ x. Reaches store next (spend_each ns) x) same
          (spent_each store ns next apart.1 (still_unused l.part.used n ns apart.0 u.1));
    }

-- a block
above : (a b n : ℕ) → a < b → AllByRecursion (λ k. nat_eq a k ≡ false) (range_with_len b n)
above a b zero h = tt
above a b (suc n) h = (apart, above a (b + 1) n (omega arith))
  where
    apart : nat_eq a b ≡ false
    apart = grind (arith, nat_tests)

distinct_block : (a n : ℕ) → IsDistinct nat_eq (range_with_len a n)
unfolding IsDistinct
distinct_block a zero = tt
distinct_block a (suc n) = (above a (a + 1) n (omega arith), distinct_block (a + 1) n)

unused_block : (used : ℕ → Bool) (a n : ℕ) → ((k : ℕ) → a ≤ k → k < a + n → used k ≡ false) → list_any used (range_with_len a n) ≡ false
unused_block used a zero h = refl
unused_block used a (suc n) h =
    or_from (used a) _ (h a (omega arith) (omega arith)) (unused_block used (a + 1) n (λ k low high. h k (omega arith) (omega arith)))

one_more : (a n k : ℕ) → ((a == k) || (nat_le (a + 1) k && nat_lt k (a + 1 + n))) ≡ (nat_le a k && nat_lt k (a + suc n))
one_more a n k = grind (arith, nat_tests)

none_left : (a k : ℕ) → false ≡ (nat_le a k && nat_lt k (a + 0))
none_left a k = grind (arith, nat_tests)

in_block : (a n k : ℕ) → list_any (λ m. m == k) (range_with_len a n) ≡ (nat_le a k && nat_lt k (a + n))
in_block a zero k = none_left a k
in_block a (suc n) k = ap (λ x. (a == k) || x) (in_block (a + 1) n k) ∙ one_more a n k

pub spent_block : (store a b : ℕ) (l : Local) → a ≤ b → ((k : ℕ) → a ≤ k → k < b → l.part.used k ≡ false)
    → Reaches store l (spend_block a b) (with_part l (with_block_used l.part a b))
spent_block store a b l low unused =
    let end : a + (b - a) ≡ b = omega arith in
    let same : with_part l (with_all_used l.part (range_with_len a (b - a))) ≡ with_part l (with_block_used l.part a b) =
    ap (with_part l) (part_used _ _ refl
    (λ k. ap (λ x. x || l.part.used k) (in_block a (b - a) k ∙ ap (λ x. nat_le a k && nat_lt k x) end)) refl) in
    subst (λ x. Reaches store l (spend_block a b) x) same
    (spent_each store (range_with_len a (b - a)) l (distinct_block a (b - a))
    (unused_block l.part.used a (b - a) (λ k from below. unused k from (subst (λ x. k < x) end below))))
