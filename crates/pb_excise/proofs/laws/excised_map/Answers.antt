use Rattle.pb_excise.proofs.Maps.{excised_map}
use Rattle.pb_excise.proofs.laws.excised_map.Goals as goal

pub returns : goal.returns
returns c = excised_map
