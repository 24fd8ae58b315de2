use Rattle.pb_store.proofs.Moves.{next_rises}
use Rattle.pb_store.proofs.laws.next_rises.Goals as goal

pub returns : goal.returns
returns c = next_rises
