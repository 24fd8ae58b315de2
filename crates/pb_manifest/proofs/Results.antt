-- Facts about the value of an answer.
use Rattle.std.proofs.Common.{◌≡◌, ◌⊎◌, Option, Some, None, Result, Ok, Err, IfErr, OnErr, sym, ◌∙◌, subst, inl, inr}
use Rattle.pb_manifest.specs.Judged.{Judges}
use Rattle.pb_manifest.specs.declared.error.CommitError.{CommitError}
use Rattle.pb_manifest.specs.declared.error.CommitError.TheVariants as error
use Rattle.pb_version.specs.declared.broken.Broken.{Broken}

pub judged_broken : {T : Type 0} (first : Option Broken) (r : Result T CommitError) (rule : Broken) → Judges first r
    → r ≡ Err (error.Broken rule) → first ≡ Some rule
judged_broken first r rule judged is = subst (Judges first) is judged

pub on_err : {T E : Type 0} (r : Result T E) (P : Type 0) → P → OnErr r P
on_err (Ok x) P holds = tt
on_err (Err e) P holds = holds

-- where memory was wanting, nothing has changed
pub of_wanting : {T : Type 0} (r : Result T CommitError) (Same : Type 0)
    → IfErr r (λ e. (e ≡ error.Disk) ⊎ ((e ≡ error.NoMemory) × Same)) → r ≡ Err error.NoMemory → Same
of_wanting r Same known is =
    elim (subst (λ (x : Result _ CommitError). IfErr x (λ e. (e ≡ error.Disk) ⊎ ((e ≡ error.NoMemory) × Same))) is known) [
      | inl disk ↦ cc
      | inr wanting ↦ wanting.1
    ]

-- an answer of the disk comes only where no rule is broken
pub judged_disk : {T : Type 0} (first : Option Broken) (r : Result T CommitError) → r ≡ Err error.Disk → Judges first r → first ≡ None
judged_disk first r is judged = subst (Judges first) is judged

-- of two versions of which the edit breaks no rule
pub judged_same : {T : Type 0} (first other : Option Broken) (r : Result T CommitError) → first ≡ None → other ≡ None → Judges first r
    → Judges other r
judged_same first other r none none_either judged = subst (λ (f : Option Broken). Judges f r) (none ∙ sym none_either) judged
