use Rattle.std.proofs.Common.{◌≡◌, ℕ, List, [], ◌∷◌, ◌++◌, true, Result, Ok, sym, ap, ◌∙◌, subst}
use Rattle.std.specs.List.{All}
use Rattle.std.specs.Prelude.{not}
use Rattle.std.proofs.lemmas.List.Elements.{All-filter}
use Rattle.pb_devices.specs.declared.fault.Fault.{Fault}
use Rattle.pb_gate_log.specs.EachLog.{EachLog}
use Rattle.pb_payloads.specs.Catalogue.{Entries, dropped, is_of, stands}
use Rattle.pb_payloads.specs.Catalogued.{catalogued_spelling}
use Rattle.pb_payloads.specs.Catalogued.Catalogued.{Dropped}
use Rattle.pb_catalog.specs.Calls.{Changes}
use Rattle.pb_catalog.specs.Catalog.{CatalogView, EachCatalogue, IsEntered}
use Rattle.pb_catalog.specs.Entered.{entries_of}
use Rattle.pb_catalog.proofs.Images.{catalog_at, changes_by, changes_nothing, drop_after, drop_in_form, each_grown}
use Rattle.pb_catalog.proofs.catalog.Catalog.drop_entry.Goals as goal
use Rattle.pb_keys.proofs.Results.{no_ok}

pub returns-in_err-gone-clause-changes : goal.returns-in_err-gone-clause-changes
returns-in_err-gone-clause-changes g c told =
    changes_nothing c.args.self.now (dropped c.args.number c.args.self.now.entries) (g.D.Disk.contents c.args.disk.now) c.from_residual.result (c.requires.kept told)

pub returns-in_err-append-clause-changes : goal.returns-in_err-append-clause-changes
returns-in_err-append-clause-changes g c told =
    let inside : CatalogView = catalog_at c.self.inside.id (entries_of c.self.inside.entries.entries) c.self.inside.log in
    let old = g.D.Disk.contents c.args.disk.now in
    let new = g.D.Disk.contents c.append.new.disk in
    let each : EachCatalogue inside old = subst (λ (v : CatalogView). EachCatalogue v old) (sym c.self.view_is) (c.requires.kept told) in
    let there : stands c.args.number inside.entries ≡ true = ap (λ (v : CatalogView). stands c.args.number v.entries) c.self.view_is ∙ c.requires.stands in
    subst (λ (v : CatalogView). Changes v (catalog_at inside.id inside.entries c.append.new.log) (dropped c.args.number v.entries) old new c.from_residual-in_err-append.result) c.self.view_is
    (changes_by inside (catalog_at inside.id inside.entries c.append.new.log) (Dropped c.args.number) (dropped c.args.number inside.entries) c.as_slice.result.now old new _ c.from_residual-in_err-append.result
    each (drop_in_form inside.entries c.args.number there c.self.invariant.in_form) (drop_after inside.entries c.args.number there) (c.as_slice.ensures.value ∙ c.in_ok-gone.ensures.ok)
    (c.in_err-append.ensures.appends told) (no_ok c.from_residual-in_err-append.result _ c.from_residual-in_err-append.ensures.0))

pub invariant_of-self-2 : goal.invariant_of-self-2
invariant_of-self-2 g c = record {
  store = c.self.invariant.store;
  in_form = subst (All IsEntered) (sym c.remove.ensures)
      (All-filter (λ entry. not (is_of c.args.number entry)) IsEntered (entries_of c.self.inside.entries.entries) c.self.invariant.in_form);
}

pub returns-clause-changes : goal.returns-clause-changes
returns-clause-changes g c told =
    let inside : CatalogView = catalog_at c.self.inside.id (entries_of c.self.inside.entries.entries) c.self.inside.log in
    let old = g.D.Disk.contents c.args.disk.now in
    let new = g.D.Disk.contents c.append.new.disk in
    let done : Result (Unit {0}) Fault = Ok tt in
    let after = dropped c.args.number inside.entries in
    let each : EachCatalogue inside old = subst (λ (v : CatalogView). EachCatalogue v old) (sym c.self.view_is) (c.requires.kept told) in
    let there : stands c.args.number inside.entries ≡ true = ap (λ (v : CatalogView). stands c.args.number v.entries) c.self.view_is ∙ c.requires.stands in
    let in_form = drop_in_form inside.entries c.args.number there c.self.invariant.in_form in
    let grows = drop_after inside.entries c.args.number there in
    let spelled : c.as_slice.result.now ≡ catalogued_spelling (Dropped c.args.number) = c.as_slice.ensures.value ∙ c.in_ok-gone.ensures.ok in
    let log = subst (λ (p : List ℕ). EachLog c.append.new.log (each.payloads ++ p ∷ []) new) spelled ((c.in_ok-append.ensures.appends told).ok each.payloads each.log) in
    let kept = subst (λ (es : Entries). EachCatalogue (catalog_at inside.id es c.append.new.log) new) (sym c.remove.ensures)
    (each_grown inside (Dropped c.args.number) after c.append.new.log old new each in_form grows log) in
    subst (λ (v : CatalogView). Changes v (catalog_at inside.id (entries_of c.remove.new.entries.entries) c.append.new.log) (dropped c.args.number v.entries) old new done) c.self.view_is
    (changes_by inside (catalog_at inside.id (entries_of c.remove.new.entries.entries) c.append.new.log) (Dropped c.args.number) after c.as_slice.result.now old new _ done
    each in_form grows spelled (c.in_ok-append.ensures.appends told) kept)
