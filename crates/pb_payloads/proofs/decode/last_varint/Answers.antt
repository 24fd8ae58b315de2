use Rattle.std.proofs.Common.{◌≡◌, [], length, true, ap}
use Rattle.std.specs.Prelude.{◌==◌}
use Rattle.pb_payloads.proofs.CatalogueLemmas.{at_front, rest_of_one}
use Rattle.pb_payloads.proofs.decode.last_varint.Goals as goal

pub returns-in_default-clause-none : goal.returns-in_default-clause-none
returns-in_default-clause-none c = λ number fits is. c.in_default.ensures.none number [] fits (at_front c.args.from.now number is)

pub returns-then-not-is_empty-clause-none : goal.returns-then-not-is_empty-clause-none
returns-then-not-is_empty-clause-none c = λ number fits is.
    let none = rest_of_one c.args.from.now c.in-Some.rest.now c.in-Some.number number c.in-Some.ensures.below fits c.in-Some.ensures.found is in
    let tested = c.if-not-is_empty.true in
    let result = c.is_empty.ensures in
    let empty : (length c.in-Some.rest.now == 0) ≡ true = ap (λ l. length l == 0) none in
    cc
