use Rattle.pb_compact.proofs.ValueLaws.{values_say}
use Rattle.pb_compact.proofs.laws.values_say_the_values.Goals as goal

pub returns : goal.returns
returns c = values_say
