use Rattle.std.proofs.Common.{ap, ◌∙◌}
use Rattle.pb_payloads.specs.Catalogue.{stands}
use Rattle.pb_catalog.specs.Catalog.{CatalogView, IsEntered}
use Rattle.pb_catalog.specs.Entered.{entries_of}
use Rattle.pb_catalog.proofs.Pairs.{entry_stands, found_in_form}
use Rattle.pb_catalog.proofs.catalog.Catalog.entry.Goals as goal

pub returns-clause-stands : goal.returns-clause-stands
returns-clause-stands c =
    entry_stands c.args.number (entries_of c.self.inside.entries.entries) c.find.result c.find.ensures
    ∙ ap (λ (catalog : CatalogView). stands c.args.number catalog.entries) c.self.view_is

pub returns-clause-in_form : goal.returns-clause-in_form
returns-clause-in_form c =
    found_in_form IsEntered c.args.number (entries_of c.self.inside.entries.entries) c.find.result c.find.ensures c.self.invariant.in_form
