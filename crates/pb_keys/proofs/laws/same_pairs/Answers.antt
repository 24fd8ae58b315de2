use Rattle.pb_keys.proofs.MapFacts.{same_pairs}
use Rattle.pb_keys.proofs.laws.same_pairs.Goals as goal

pub returns : goal.returns
returns c = same_pairs
