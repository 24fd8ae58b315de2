use Rattle.std.proofs.Common.{◌≡◌, ◌∙◌, sym, arith}
use Rattle.pb_bytes.proofs.ReadingLemmas.{one_varint}
use Rattle.pb_bytes.proofs.split.split_number.Goals as goal

pub returns-then-number-ge-NUMBERS-clause-none : goal.returns-then-number-ge-NUMBERS-clause-none
returns-then-number-ge-NUMBERS-clause-none c number rest low is =
    let read = c.in_ok-number.number in
    let same : number ≡ read = (one_varint number read rest c.in_ok-number.rest.now (omega arith) c.in_ok-number.ensures.below (sym is ∙ c.in_ok-number.ensures.found)).0 in
    omega (arith, c.if-number-ge-NUMBERS.true)
