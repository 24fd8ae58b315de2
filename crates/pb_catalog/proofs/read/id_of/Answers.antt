use Rattle.pb_payloads.specs.Catalogued.Catalogued.{Id}
use Rattle.pb_payloads.specs.Payloads.{catalogued_of}
use Rattle.pb_catalog.proofs.Found.{id_in_form, id_spelled, no_id}
use Rattle.pb_catalog.proofs.read.id_of.Goals as goal

pub returns-in_default-clause-none : goal.returns-in_default-clause-none
returns-in_default-clause-none c = λ id in_form is. c.in_default.ensures.none (Id id) in_form is

pub returns-clause-some : goal.returns-clause-some
returns-clause-some c = id_spelled c.id_in.result c.args.from.now (catalogued_of c.in-Some.read) c.in-Some.ensures.some c.id_in.ensures.some

pub returns-clause-in_form : goal.returns-clause-in_form
returns-clause-in_form c = id_in_form c.id_in.result (catalogued_of c.in-Some.read) c.in-Some.ensures.in_form c.id_in.ensures.some

pub returns-clause-none : goal.returns-clause-none
returns-clause-none c =
    no_id c.id_in.result c.args.from.now (catalogued_of c.in-Some.read) c.in-Some.ensures.in_form c.in-Some.ensures.some c.id_in.ensures.none
