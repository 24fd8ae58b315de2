use Rattle.pb_version.proofs.SaysVersion.{says_a_version}
use Rattle.pb_version.proofs.laws.says_a_version.Goals as goal

pub returns : goal.returns
returns c = says_a_version
