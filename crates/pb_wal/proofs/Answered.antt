-- Answers that aren't None.
use Rattle.std.proofs.Common.{◌≡◌, Option, Some, None}
use Rattle.std.specs.Prelude.{Result, Ok, Err, IsErr}

pub err_is_none : {T E : Type 0} (result : Result (Option T) E) → IsErr result → result ≡ Ok None → ⊥
err_is_none (Ok found) is same = absurd (cc is)
err_is_none (Err error) is same = cc

pub some_is_none : {T E : Type 0} (x : T) → ◌≡◌ {A = Result (Option T) E} (Ok (Some x)) (Ok None) → ⊥
some_is_none x same = cc

pub error_is_none : {T E : Type 0} (error : E) → ◌≡◌ {A = Result (Option T) E} (Err error) (Ok None) → ⊥
error_is_none error same = cc
