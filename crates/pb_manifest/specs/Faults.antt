-- Which errors are the disk's.
use Rattle.pb_manifest.specs.declared.error.CommitError.{CommitError}
use Rattle.pb_manifest.specs.declared.error.CommitError.TheVariants as commit_error
use Rattle.pb_manifest.specs.declared.error.ManifestError.{ManifestError}
use Rattle.pb_manifest.specs.declared.error.ManifestError.TheVariants as manifest_error

-- the disk failed in a commit
abbrev pub IsCommitFault : CommitError → Type 0
IsCommitFault commit_error.Disk = Unit {0}
IsCommitFault (commit_error.Broken rule) = ⊥
IsCommitFault commit_error.Spent = ⊥
IsCommitFault commit_error.NoMemory = ⊥

-- the disk failed in an opening
abbrev pub IsManifestFault : ManifestError → Type 0
IsManifestFault manifest_error.Disk = Unit {0}
IsManifestFault (manifest_error.Damaged file) = ⊥
IsManifestFault manifest_error.NoMemory = ⊥
