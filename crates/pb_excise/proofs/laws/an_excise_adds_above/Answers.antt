use Rattle.pb_excise.proofs.Above.{adds_above}
use Rattle.pb_excise.proofs.laws.an_excise_adds_above.Goals as goal

pub returns : goal.returns
returns c = adds_above
