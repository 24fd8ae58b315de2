use Rattle.pb_bytes.proofs.BigEndianLemmas.{be32-number_of, number_of-below, number_of-be32}
use Rattle.pb_bytes.proofs.laws.each_four_bytes.Goals as goal

pub returns-clause-spelled : goal.returns-clause-spelled
returns-clause-spelled c = be32-number_of

pub returns-clause-below : goal.returns-clause-below
returns-clause-below c bytes four small = rw four at (number_of-below bytes small)

pub returns-clause-only : goal.returns-clause-only
returns-clause-only c = number_of-be32
