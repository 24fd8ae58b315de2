use Rattle.pb_bytes.proofs.ReadingLemmas.{one_field}
use Rattle.pb_bytes.proofs.laws.one_field.Goals as goal

pub returns : goal.returns
returns c = one_field
