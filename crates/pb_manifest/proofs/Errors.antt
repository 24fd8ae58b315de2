-- Errors of answers of several types.
use Rattle.std.proofs.Common.{◌≡◌, ℕ, List, Result, Err}
use Rattle.pb_manifest.specs.declared.error.CommitError.{CommitError}
use Rattle.pb_manifest.specs.declared.error.ManifestError.{ManifestError}
use Rattle.pb_manifest.specs.declared.error.ManifestError.TheVariants.{Damaged}

-- an answer tells its error
pub same_error : {T : Type 0} (x y : CommitError) → ◌≡◌ {A = Result T CommitError} (Err x) (Err y) → x ≡ y
same_error x y same = cc

pub same_file : {T : Type 0} (x y : List ℕ) → ◌≡◌ {A = Result T ManifestError} (Err (Damaged x)) (Err (Damaged y)) → x ≡ y
same_file x y same = cc
