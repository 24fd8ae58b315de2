use Rattle.pb_lend.proofs.CutMaps.{upper_is}
use Rattle.pb_lend.proofs.laws.what_is_read_makes_an_upper_layer.Goals as goal

pub returns : goal.returns
returns c = upper_is
