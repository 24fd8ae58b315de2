use Rattle.pb_payloads.proofs.CatalogueLemmas.{behind_number}
use Rattle.pb_payloads.proofs.decode.read_shared.Goals as goal

pub returns-in_default-read_object-clause-none : goal.returns-in_default-read_object-clause-none
returns-in_default-read_object-clause-none c = λ catalogued behind.
    let object = behind_number c.args.from.now c.in-Some.rest.now c.in-Some.number catalogued c.in-Some.ensures.below c.in-Some.ensures.found behind in
    c.in_default-read_object.ensures.none object.0 object.1 object.2
