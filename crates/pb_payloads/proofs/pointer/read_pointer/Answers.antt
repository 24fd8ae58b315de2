use Rattle.std.proofs.Common.{◌≡◌, [], length, true, sym, ap, ◌∙◌}
use Rattle.std.specs.Prelude.{◌==◌}
use Rattle.pb_bytes.specs.Varint.{varint}
use Rattle.pb_payloads.proofs.Pointers.{behind, both_read, empty_of, nothing_behind}
use Rattle.pb_payloads.proofs.pointer.read_pointer.Goals as goal

pub returns-in_default-clause-none : goal.returns-in_default-clause-none
returns-in_default-clause-none c = λ pointer is spelled.
    c.in_default.ensures.none pointer.manifest (varint pointer.catalogue) is.manifest spelled

pub returns-in_default-split_number-clause-none : goal.returns-in_default-split_number-clause-none
returns-in_default-split_number-clause-none c = λ pointer is spelled.
    c.in_default-split_number.ensures.none pointer.catalogue [] is.catalogue
    (behind c.args.from.now c.in-Some.rest.now c.in-Some.manifest pointer c.in-Some.ensures.below is c.in-Some.ensures.found spelled)

pub returns-then-not-is_empty-clause-none : goal.returns-then-not-is_empty-clause-none
returns-then-not-is_empty-clause-none c = λ pointer is spelled.
    let none =
    nothing_behind c.args.from.now c.in-Some.rest.now c.in-Some-split_number.rest.now c.in-Some.manifest c.in-Some-split_number.catalogue pointer
    c.in-Some.ensures.below c.in-Some-split_number.ensures.below is c.in-Some.ensures.found c.in-Some-split_number.ensures.found spelled in
    let tested = c.if-not-is_empty.true in
    let result = c.is_empty.ensures in
    let empty : (length c.in-Some-split_number.rest.now == 0) ≡ true = ap (λ l. length l == 0) none in
    cc

pub returns-clause-some : goal.returns-clause-some
returns-clause-some c =
    both_read c.args.from.now c.in-Some.rest.now c.in-Some-split_number.rest.now c.in-Some.manifest c.in-Some-split_number.catalogue
    c.in-Some.ensures.found c.in-Some-split_number.ensures.found
    (empty_of c.in-Some-split_number.rest.now (sym c.is_empty.ensures ∙ c.if-not-is_empty.false))
