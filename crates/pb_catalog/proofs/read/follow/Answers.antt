use Rattle.pb_payloads.specs.Payloads.{catalogued_of}
use Rattle.pb_catalog.specs.Entered.{entries_of}
use Rattle.pb_payloads.proofs.CatalogueFolds.{no_change}
use Rattle.pb_catalog.proofs.read.follow.Goals as goal

pub returns-clause-no : goal.returns-clause-no
returns-clause-no c = λ undone new is.
    no_change c.args.payload.now (entries_of c.args.entries.now.entries) (catalogued_of c.in-Some.read) c.in-Some.ensures.in_form c.in-Some.ensures.some
    (c.in_ok-done.ensures.no undone) new is
