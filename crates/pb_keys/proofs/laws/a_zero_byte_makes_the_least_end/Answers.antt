use Rattle.pb_keys.proofs.OrderFacts.{least_end_above}
use Rattle.pb_keys.proofs.laws.a_zero_byte_makes_the_least_end.Goals as goal

pub returns : goal.returns
returns c = least_end_above
