use Rattle.pb_excise.proofs.Rules.{too_many_alone}
use Rattle.pb_excise.proofs.laws.too_many_alone.Goals as goal

pub returns : goal.returns
returns c = too_many_alone
