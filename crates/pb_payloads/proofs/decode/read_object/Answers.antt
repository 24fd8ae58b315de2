use Rattle.std.proofs.Common.{sym, subst}
use Rattle.std.specs.Prelude.{IsTrue}
use Rattle.pb_names.specs.Identity.{IsStore}
use Rattle.pb_payloads.proofs.CatalogueLemmas.{behind_creator}
use Rattle.pb_payloads.proofs.decode.read_object.Goals as goal

pub returns-in_default-last_number-clause-none : goal.returns-in_default-last_number-clause-none
returns-in_default-last_number-clause-none c = λ object is spelled.
    c.in_default-last_number.ensures.none object.number is.number
    (behind_creator c.args.from.now c.in-Some.rest.now c.in-Some.creator object c.in-Some.ensures.below is c.in-Some.ensures.found spelled).1

pub returns-then-not-is_store-clause-none : goal.returns-then-not-is_store-clause-none
returns-then-not-is_store-clause-none c = λ object is spelled.
    let same = (behind_creator c.args.from.now c.in-Some.rest.now c.in-Some.creator object c.in-Some.ensures.below is c.in-Some.ensures.found spelled).0 in
    let store : IsTrue c.is_store.result = c.is_store.ensures.1 (subst IsStore (sym same) is.creator) in
    let tested = c.if-not-is_store.true in
    cc
