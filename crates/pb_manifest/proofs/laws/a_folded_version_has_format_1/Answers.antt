use Rattle.pb_manifest.proofs.Kept.{folded_format}
use Rattle.pb_manifest.proofs.laws.a_folded_version_has_format_1.Goals as goal

pub returns : goal.returns
returns c = folded_format
