use Rattle.std.proofs.Common.{sym, ◌∙◌, arith}
use Rattle.pb_bytes.proofs.BigEndianLemmas.{be32-read, number_of-take}
use Rattle.pb_bytes.proofs.big_endian.read_be32.Goals as goal

pub returns-clause-found : goal.returns-clause-found
returns-clause-found c =
    be32-read c.args.from.now c.read_u32.result c.if-from-lt4.false (λ place. omega (arith, c.type_inv.from place)) c.read_u32.ensures

pub returns-clause-number : goal.returns-clause-number
returns-clause-number c = c.read_u32.ensures ∙ sym (number_of-take 4 c.args.from.now c.if-from-lt4.false)
