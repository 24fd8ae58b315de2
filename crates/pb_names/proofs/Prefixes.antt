-- What it means for one list of bytes to begin with another.
use Rattle.std.proofs.Common.{◌≡◌, ℕ, List, ◌++◌, length, drop, nat_eq, true, refl}
use Rattle.std.specs.List.{starts_with}
use Rattle.std.proofs.lemmas.Bool.Decides.{Decides-eqb}
use Rattle.std.proofs.lemmas.Slice.Eq.{starts_is}

pub starts_with-append : (front rest : List ℕ) → starts_with nat_eq (front ++ rest) front ≡ true
starts_with-append front rest = (starts_is Decides-eqb (front ++ rest) front (starts_with nat_eq (front ++ rest) front) refl).1 rest refl

pub rest_from_starts_with : (text front : List ℕ) → starts_with nat_eq text front ≡ true → text ≡ front ++ drop (length front) text
rest_from_starts_with text front = (starts_is Decides-eqb text front (starts_with nat_eq text front) refl).0
