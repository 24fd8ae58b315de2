use Rattle.std.proofs.Common.{Err, ap}
use Rattle.pb_manifest.specs.declared.error.CommitError.TheVariants.{Disk, Spent}
use Rattle.pb_manifest.proofs.Errors.{same_error}
use Rattle.pb_manifest.proofs.manifest.Manifest.draw.Goals as goal

pub returns-in-Err-clause-kept : goal.returns-in-Err-clause-kept
returns-in-Err-clause-kept g c = λ told not. c.in-Err.ensures.kept told (λ is. not (ap Err (same_error c.in-Err.error Disk is)))

pub returns-in-Err-clause-full : goal.returns-in-Err-clause-full
returns-in-Err-clause-full g c = λ is. c.in-Err.ensures.full (ap Err (same_error c.in-Err.error Spent is))
