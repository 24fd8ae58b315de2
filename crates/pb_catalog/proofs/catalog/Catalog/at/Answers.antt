use Rattle.std.proofs.Common.{slice_get, sym, ap, ◌∙◌}
use Rattle.std.specs.Prelude.{option_map}
use Rattle.std.proofs.lemmas.Option.{slice_get-map}
use Rattle.pb_catalog.specs.Catalog.{CatalogView, IsEntered}
use Rattle.pb_catalog.specs.Entered.{entered, entries_of}
use Rattle.pb_catalog.proofs.Pairs.{at_in_form}
use Rattle.pb_catalog.proofs.catalog.Catalog.at.Goals as goal

pub returns-in-Some-clause-in_form : goal.returns-in-Some-clause-in_form
returns-in-Some-clause-in_form c =
    let pairs = c.self.inside.entries.entries in
    at_in_form IsEntered (entries_of pairs) c.args.place (entered (c.in-Some.number.now, c.in-Some.entry.now))
    (slice_get-map entered pairs c.args.place ∙ ap (option_map entered) (sym c.in-Some.ensures.entry)) c.self.invariant.in_form

pub returns-in-None-clause-value : goal.returns-in-None-clause-value
returns-in-None-clause-value c =
    let pairs = c.self.inside.entries.entries in
    sym (ap (λ (catalog : CatalogView). slice_get catalog.entries c.args.place) (sym c.self.view_is)
    ∙ slice_get-map entered pairs c.args.place ∙ ap (option_map entered) (sym c.in-None.ensures.entry))
