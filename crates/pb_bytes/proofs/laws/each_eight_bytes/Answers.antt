use Rattle.pb_bytes.proofs.BigEndianLemmas.{be64-number_of, number_of-below, number_of-be64}
use Rattle.pb_bytes.proofs.laws.each_eight_bytes.Goals as goal

pub returns-clause-spelled : goal.returns-clause-spelled
returns-clause-spelled c = be64-number_of

pub returns-clause-below : goal.returns-clause-below
returns-clause-below c bytes eight small = rw eight at (number_of-below bytes small)

pub returns-clause-only : goal.returns-clause-only
returns-clause-only c = number_of-be64
