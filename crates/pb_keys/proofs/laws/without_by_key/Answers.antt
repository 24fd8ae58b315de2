use Rattle.pb_keys.proofs.MapFacts.{get-without}
use Rattle.pb_keys.proofs.laws.without_by_key.Goals as goal

pub returns : goal.returns
returns c = get-without
