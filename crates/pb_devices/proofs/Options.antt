-- A fact about the value of an option.
use Rattle.std.proofs.Common.{◌≡◌, Option, Some, None, IsSomeAnd, refl, subst, sym}

-- the value that has the fact
pub some_of : {T : Type 0} (o : Option T) (P : T → Type 0) → IsSomeAnd o P → (x : T) × (o ≡ Some x) × P x
some_of None P h = absurd h
some_of (Some x) P h = (x, refl, h)

pub of_some : {T : Type 0} (o : Option T) (P : T → Type 0) (x : T) → o ≡ Some x → P x → IsSomeAnd o P
of_some o P x is h = subst (λ (p : Option _). IsSomeAnd p P) (sym is) h

pub is_some_and : {T : Type 0} (o : Option T) (P : T → Type 0) (x : T) → o ≡ Some x → IsSomeAnd o P → P x
is_some_and o P x is h = subst (λ (p : Option _). IsSomeAnd p P) is h
