use Rattle.pb_store.proofs.Falls.{falls}
use Rattle.pb_store.proofs.laws.falls.Goals as goal

pub returns : goal.returns
returns c = falls
