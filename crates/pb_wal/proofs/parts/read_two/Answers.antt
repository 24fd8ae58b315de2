use Rattle.std.proofs.Common.{arith}
use Rattle.pb_bytes.specs.Varint.{field}
use Rattle.pb_wal.proofs.PartLemmas.{same_front}
use Rattle.pb_wal.proofs.parts.read_two.Goals as goal

pub returns-in_err-second-clause-none : goal.returns-in_err-second-clause-none
returns-in_err-second-clause-none c =
    rw c.from_residual-in_err-second.ensures (λ one two both.
    c.in_err-second.ensures.none two
    (same_front c.args.from.now c.in_ok-first.first.now one c.in_ok-first.rest.now (field two) (omega arith) c.in_ok-first.ensures.found both).1)
