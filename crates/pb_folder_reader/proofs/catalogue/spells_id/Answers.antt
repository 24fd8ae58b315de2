use Rattle.std.proofs.Common.{refl}
use Rattle.pb_payloads.specs.Catalogued.Catalogued.{Id}
use Rattle.pb_payloads.specs.Payloads.{catalogued_of}
use Rattle.pb_payloads.proofs.CatalogueFolds.{other_id}
use Rattle.pb_folder_reader.proofs.catalogue.spells_id.Goals as goal

pub returns-in_default-clause-no : goal.returns-in_default-clause-no
returns-in_default-clause-no c = λ _ is. c.in_default.ensures.none (Id c.args.id) (record { kind = refl; content = c.ranges.id.fits }) is

pub returns-clause-no : goal.returns-clause-no
returns-clause-no c = λ other is.
    other_id c.args.from.now (catalogued_of c.in-Some.read) c.args.id c.ranges.id.fits c.in-Some.ensures.in_form c.in-Some.ensures.some (c.is_id.ensures.no other) is
