use Rattle.std.proofs.Common.{sym, ◌∙◌, arith}
use Rattle.pb_bytes.proofs.BigEndianLemmas.{be64-read, number_of-take}
use Rattle.pb_bytes.proofs.big_endian.read_be64.Goals as goal

pub returns-clause-found : goal.returns-clause-found
returns-clause-found c =
    be64-read c.args.from.now c.read_u64.result c.if-from-lt8.false (λ place. omega (arith, c.type_inv.from place)) c.read_u64.ensures

pub returns-clause-number : goal.returns-clause-number
returns-clause-number c = c.read_u64.ensures ∙ sym (number_of-take 8 c.args.from.now c.if-from-lt8.false)
