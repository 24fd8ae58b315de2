-- Small facts on tests.
use Rattle.std.proofs.Common.{◌≡◌, true, false}

pub true_is_not_false : true ≡ false → ⊥
true_is_not_false e = cc
