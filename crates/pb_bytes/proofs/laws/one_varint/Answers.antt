use Rattle.pb_bytes.proofs.ReadingLemmas.{one_varint}
use Rattle.pb_bytes.proofs.laws.one_varint.Goals as goal

pub returns : goal.returns
returns c = one_varint
