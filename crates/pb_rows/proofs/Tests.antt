-- Small facts on tests, one or both of which hold.
use Rattle.std.proofs.Common.{◌≡◌, Bool, true, false, refl}
use Rattle.std.specs.Prelude.{◌&&◌}

pub record Both (a b : Bool) : Type 0 where
  pub first : a ≡ true
  pub second : b ≡ true

pub both_true : (a b : Bool) → (a && b) ≡ true → Both a b
both_true true true h = record { first = refl; second = refl }
both_true true false h = cc
both_true false b h = cc
