use Rattle.std.proofs.Common.{rules}
use Rattle.pb_names.specs.Spelling.{external_name}
use Rattle.pb_names.proofs.external_object.external.Goals as goal

pub returns : goal.returns
unfolding external_name
returns c = search rules
