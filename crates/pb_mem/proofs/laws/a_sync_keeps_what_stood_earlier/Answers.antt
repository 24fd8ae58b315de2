use Rattle.pb_mem.proofs.ImageLemmas.{synced_earlier}
use Rattle.pb_mem.proofs.laws.a_sync_keeps_what_stood_earlier.Goals as goal

pub returns : goal.returns
returns c = synced_earlier
