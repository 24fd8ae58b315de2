use Rattle.pb_excise.proofs.Walk.{unused_from}
use Rattle.pb_excise.proofs.laws.unreserved_numbers_are_unused.Goals as goal

pub returns : goal.returns
returns c = unused_from
