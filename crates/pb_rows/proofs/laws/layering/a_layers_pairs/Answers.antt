use Rattle.pb_rows.proofs.LivePairs.{entries-applied_empty}
use Rattle.pb_rows.proofs.laws.layering.a_layers_pairs.Goals as goal

pub returns : goal.returns
returns c = entries-applied_empty
