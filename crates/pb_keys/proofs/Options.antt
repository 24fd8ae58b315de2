-- What a clause says of the value in an answer, where the answer is known.
use Rattle.std.proofs.Common.{◌≡◌, Option, Some, None, IfSome, IfNone, subst}

pub some_has : {T : Type 0} (o : Option T) (P : T → Type 0) (x : T) → o ≡ Some x → IfSome o P → P x
some_has o P x is h = subst (λ (p : Option _). IfSome p P) is h

pub none_has : {T : Type 0} (o : Option T) (P : Type 0) → o ≡ None → IfNone o P → P
none_has o P is h = subst (λ (p : Option _). IfNone p P) is h
