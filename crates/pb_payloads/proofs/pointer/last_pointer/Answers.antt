use Rattle.std.proofs.Common.{◌≡◌, Some, None, sym, ap, ◌∙◌}
use Rattle.std.specs.List.{last_or}
use Rattle.pb_payloads.specs.Current.{Pointer, IsPointer, SaysCurrent, pointer_spelling, pointer_to}
use Rattle.pb_payloads.proofs.Pointers.{last_is}
use Rattle.pb_payloads.proofs.Results.{if_none, if_some_both}
use Rattle.pb_payloads.proofs.pointer.last_pointer.Goals as goal

pub returns-clause-some : goal.returns-clause-some
returns-clause-some c =
    let payloads = c.args.payloads.now in
    let last : last_or None payloads ≡ Some c.as_slice.result.now =
    last_is payloads c.index-payloads-at.result c.requires c.index-payloads-at.is ∙ ap Some (sym c.as_slice.ensures) in
    if_some_both c.read_pointer.result (λ read. IsPointer (pointer_to read.0 read.1)) (λ read. c.as_slice.result.now ≡ pointer_spelling (pointer_to read.0 read.1))
    (λ read. SaysCurrent payloads (pointer_to read.0 read.1))
    (λ read form spelled. record { last = last ∙ ap Some spelled; in_form = form })
    c.read_pointer.ensures.form c.read_pointer.ensures.some

pub returns-clause-none : goal.returns-clause-none
returns-clause-none c =
    let payloads = c.args.payloads.now in
    let last : last_or None payloads ≡ Some c.as_slice.result.now =
    last_is payloads c.index-payloads-at.result c.requires c.index-payloads-at.is ∙ ap Some (sym c.as_slice.ensures) in
    if_none c.read_pointer.result
    ((pointer : Pointer) → IsPointer pointer → c.as_slice.result.now ≡ pointer_spelling pointer → ⊥)
    ((pointer : Pointer) → SaysCurrent payloads pointer → ⊥)
    (λ none pointer says.
    let spelled : Some c.as_slice.result.now ≡ Some (pointer_spelling pointer) = sym last ∙ says.last in
    none pointer says.in_form (cc))
    c.read_pointer.ensures.none
