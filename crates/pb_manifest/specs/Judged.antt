-- What a call that commits an edit answers, by the first rule that the edit breaks.
use Rattle.std.specs.Prelude.{◌≡◌, Option, Some, None, Result, Ok, Err}
use Rattle.pb_manifest.specs.declared.error.CommitError.{CommitError}
use Rattle.pb_manifest.specs.declared.error.CommitError.TheVariants as error
use Rattle.pb_version.specs.declared.broken.Broken.{Broken}
use Rattle.pb_version.specs.declared.broken.Broken.TheVariants as broken

-- only want of memory may come in place of the answer
abbrev pub Judges : {T : Type 0} → Option Broken → Result T CommitError → Type 0
Judges first (Ok done) = first ≡ None
Judges first (Err error.Disk) = first ≡ None
Judges first (Err (error.Broken rule)) = first ≡ Some rule
Judges first (Err error.Spent) = ⊥
Judges first (Err error.NoMemory) = Unit {0}

-- the error by which a refused edit is told
abbrev pub refusal_of : Broken → CommitError
refusal_of broken.NoMemory = error.NoMemory
refusal_of rule = error.Broken rule
