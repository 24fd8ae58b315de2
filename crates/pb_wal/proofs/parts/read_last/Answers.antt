use Rattle.std.proofs.Common.{[], arith}
use Rattle.pb_bytes.specs.Varint.{field}
use Rattle.pb_bytes.proofs.Steps.{some_left}
use Rattle.pb_wal.proofs.PartLemmas.{whole, same_front}
use Rattle.pb_wal.proofs.parts.read_last.Goals as goal

pub returns-in_err-content-clause-none : goal.returns-in_err-content-clause-none
returns-in_err-content-clause-none c =
    rw c.from_residual.ensures (λ content is_field. c.in_err-content.ensures.none content [] (whole c.args.from.now (field content) is_field))

pub returns-then-not-is_empty-clause-none : goal.returns-then-not-is_empty-clause-none
returns-then-not-is_empty-clause-none c content is_field =
    some_left c.in_ok-content.rest.now c.if-not-is_empty.ensures
    (same_front c.args.from.now c.in_ok-content.content.now content c.in_ok-content.rest.now [] (omega arith) c.in_ok-content.ensures.found
    (whole c.args.from.now (field content) is_field)).1
