-- What a clause says of one arm of an answer that has the other.
use Rattle.std.proofs.Common.{Result, Ok, Err, OnOk, OnErr, IsErr}
use Rattle.std.proofs.lemmas.Bool.{false≢true}

pub on_err : {T E : Type 0} (result : Result T E) (P : Type 0) → P → OnErr result P
on_err (Ok value) P is = tt
on_err (Err error) P is = is

pub no_ok : {T E : Type 0} (result : Result T E) (P : Type 0) → IsErr result → OnOk result P
no_ok (Ok value) P is = absurd (false≢true is)
no_ok (Err error) P is = tt
