use Rattle.pb_lend.proofs.CutMaps.{cut_map}
use Rattle.pb_lend.proofs.laws.what_is_lent_is_the_cut_map.Goals as goal

pub returns : goal.returns
returns c = cut_map
