-- Facts about the value of an answer.
use Rattle.pb_catalog.specs.declared.error.CatalogError.{CatalogError}
use Rattle.pb_catalog.specs.declared.error.CatalogError.TheVariants.{WrongStore}
use Rattle.std.proofs.Common.{◌≡◌, ℕ, Result, Ok, Err, OnOk, subst}

pub ok_has : {T E : Type 0} (r : Result T E) (x : T) (P : Type 0) → r ≡ Ok x → OnOk r P → P
ok_has r x P is h = subst (λ (r : Result _ _). OnOk r P) is h

pub on_ok : {T E : Type 0} (r : Result T E) (P : Type 0) → P → OnOk r P
on_ok (Ok x) P holds = holds
on_ok (Err e) P holds = tt

-- an answer tells its error
pub same_wrong : {T : Type 0} (error : CatalogError) (other : ℕ) → ◌≡◌ {A = Result T CatalogError} (Err error) (Err (WrongStore other)) → error ≡ WrongStore other
same_wrong error other same = cc
