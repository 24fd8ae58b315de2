-- Small facts on tests that no library has.
use Rattle.std.proofs.Common.{◌≡◌, Bool, true, false, cond, refl, sym}
use Rattle.std.specs.Prelude.{not, ◌&&◌, ◌||◌}

pub or_false : (a : Bool) → (a || false) ≡ a
or_false true = refl
or_false false = refl

pub turned : {A : Type 0} (b : Bool) (x y : A) → cond (not b) x y ≡ cond b y x
turned true x y = refl
turned false x y = refl

-- ---- both, or one of them, in another order

pub both_groups : (a b c : Bool) → ((a && b) && c) ≡ (a && (b && c))
both_groups true b c = refl
both_groups false b c = refl

pub either_groups : (a b c : Bool) → ((a || b) || c) ≡ (a || (b || c))
either_groups true b c = refl
either_groups false b c = refl

pub either_turns : (a b : Bool) → (a || b) ≡ (b || a)
either_turns true true = refl
either_turns true false = refl
either_turns false true = refl
either_turns false false = refl

pub either_swaps : (a b c : Bool) → (a || (b || c)) ≡ (b || (a || c))
either_swaps true true c = refl
either_swaps true false c = refl
either_swaps false b c = refl

-- ---- of two of which one gives the other

pub both_below : (x y : Bool) → (y ≡ true → x ≡ true) → y ≡ (x && y)
both_below true y h = refl
both_below false true h = sym (h refl)
both_below false false h = refl

pub both_below_first : (x y : Bool) → (x ≡ true → y ≡ true) → x ≡ (x && y)
both_below_first true true h = refl
both_below_first true false h = cc (h refl)
both_below_first false y h = refl

pub one_below : (x y : Bool) → (x ≡ true → y ≡ true) → y ≡ (x || y)
one_below true true h = refl
one_below true false h = h refl
one_below false y h = refl

pub one_below_first : (x y : Bool) → (y ≡ true → x ≡ true) → x ≡ (x || y)
one_below_first true y h = refl
one_below_first false true h = cc (h refl)
one_below_first false false h = refl

-- ---- what one test says of the other

pub second_is_false : (a b : Bool) → (a && b) ≡ false → a ≡ true → b ≡ false
second_is_false true b h k = h
second_is_false false b h k = cc

-- two tests that are met together are the same
pub same_tests : (a b : Bool) → (a ≡ true → b ≡ true) → (b ≡ true → a ≡ true) → a ≡ b
same_tests true b forth back = sym (forth refl)
same_tests false true forth back = back refl
same_tests false false forth back = refl
