-- Small facts on tests and choices.
use Rattle.std.proofs.Common.{◌≡◌, Bool, true, false, refl}
use Rattle.std.specs.Prelude.{not, ◌&&◌, ◌||◌}

-- two spans that overlap or touch, at a point that is below these of their ends: a, b those of the first, c, d those of the second
pub one_span : (a b c d : Bool) → (c ≡ true → b ≡ true) → (a ≡ true → d ≡ true) → (not (a && c) && (b || d)) ≡ ((not a && b) || (not c && d))
one_span false b false d h k = refl
one_span false true true d h k = refl
one_span false false true d h k = cc (h refl)
one_span true true false true h k = refl
one_span true false false true h k = refl
one_span true b false false h k = cc (k refl)
one_span true b true d h k = refl

pub record Neither (a b : Bool) : Type 0 where
  pub first : a ≡ false
  pub second : b ≡ false

pub neither : (a b : Bool) → (a || b) ≡ false → Neither a b
neither true b h = cc
neither false b h = record { first = refl; second = h }
