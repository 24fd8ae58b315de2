use Rattle.pb_keys.proofs.MapFacts.{get-cut}
use Rattle.pb_keys.proofs.laws.cut_by_key.Goals as goal

pub returns : goal.returns
returns c = get-cut
