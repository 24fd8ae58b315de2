use Rattle.std.proofs.Common.{sym, ◌∙◌, arith}
use Rattle.pb_payloads.proofs.SpellingLaws.{one_last_varint}
use Rattle.pb_payloads.proofs.decode.last_number.Goals as goal

pub returns-then-number-ge-NUMBERS-clause-none : goal.returns-then-number-ge-NUMBERS-clause-none
returns-then-number-ge-NUMBERS-clause-none c = λ number low is.
    let same = one_last_varint c.in-Some.number number c.in-Some.ensures.fits (omega arith) (sym c.in-Some.ensures.some ∙ is) in
    let high = c.if-number-ge-NUMBERS.true in
    absurd (omega arith)
