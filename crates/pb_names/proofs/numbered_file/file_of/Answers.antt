use Rattle.std.proofs.Common.{◌≡◌, ◌++◌, ◌∙◌, sym}
use Rattle.pb_names.specs.NumberedFile.{IsShortestNumeral}
use Rattle.pb_names.specs.Spelling.{ending}
use Rattle.pb_names.proofs.NumberedFileLemmas.{not_numbered, number_read, number_spelled}
use Rattle.pb_names.proofs.numbered_file.file_of.Goals as goal

pub returns-then-not-is_shortest_numeral-clause-numbered : goal.returns-then-not-is_shortest_numeral-clause-numbered
returns-then-not-is_shortest_numeral-clause-numbered c =
    let parts = c.in_ok-digits.ensures.some in
    let whole : c.args.name.now ≡ c.in_ok-digits.digits.now ++ ending c.in_ok-digits.kind = sym c.as_bytes.ensures.value ∙ parts in
    let bad : IsShortestNumeral c.in_ok-digits.digits.now → ⊥ =
    λ (is : IsShortestNumeral c.in_ok-digits.digits.now). (let yes = c.is_shortest_numeral.ensures.1 is in cc) in
    ((λ is. absurd (cc)), (λ is. absurd (not_numbered c.in_ok-digits.digits.now c.args.name.now c.in_ok-digits.kind whole bad is)))

pub returns-clause-number : goal.returns-clause-number
returns-clause-number c n =
    let parts = c.in_ok-digits.ensures.some in
    let whole : c.args.name.now ≡ c.in_ok-digits.digits.now ++ ending c.in_ok-digits.kind = sym c.as_bytes.ensures.value ∙ parts in
    let numeral : IsShortestNumeral c.in_ok-digits.digits.now = c.is_shortest_numeral.ensures.0 c.if-not-is_shortest_numeral.false in (
      number_read c.in_ok-digits.digits.now c.args.name.now c.in_ok-digits.kind c.number_of.result numeral whole c.number_of.ensures n,
      (λ is. number_spelled c.in_ok-digits.digits.now c.args.name.now c.in_ok-digits.kind c.number_of.result whole c.number_of.ensures n is.0 is.1),
    )
