use Rattle.std.proofs.Common.{◌≡◌, ℕ, List, [], ◌∷◌, ◌++◌, false, Result, Ok, sym, ap, ◌∙◌, subst}
use Rattle.pb_devices.specs.declared.fault.Fault.{Fault}
use Rattle.pb_gate_log.specs.EachLog.{EachLog}
use Rattle.pb_payloads.specs.Catalogue.{Entries, stands}
use Rattle.pb_payloads.specs.Catalogued.{catalogued_spelling}
use Rattle.pb_payloads.specs.Catalogued.Catalogued.{Entered}
use Rattle.pb_payloads.specs.Payloads.{standing_of}
use Rattle.pb_catalog.specs.Calls.{Changes}
use Rattle.pb_catalog.specs.Catalog.{CatalogView, EachCatalogue}
use Rattle.pb_catalog.specs.Entered.{entries_of}
use Rattle.pb_catalog.proofs.Images.{catalog_at, changes_by, changes_nothing, each_grown, enter_after}
use Rattle.pb_catalog.proofs.catalog.Catalog.intend.Goals as goal
use Rattle.pb_keys.proofs.Results.{no_ok}

pub returns-in_err-payload-clause-changes : goal.returns-in_err-payload-clause-changes
returns-in_err-payload-clause-changes g c told =
    changes_nothing c.args.self.now (c.args.self.now.entries ++ (c.args.number, standing_of c.args.entry) ∷ []) (g.D.Disk.contents c.args.disk.now) c.from_residual.result (c.requires.kept told)

pub returns-in_err-make_room-clause-changes : goal.returns-in_err-make_room-clause-changes
returns-in_err-make_room-clause-changes g c told =
    let inside : CatalogView = catalog_at c.self.inside.id (entries_of c.self.inside.entries.entries) c.self.inside.log in
    let old = g.D.Disk.contents c.args.disk.now in
    let result = c.from_residual-in_err-make_room.result in
    let same : catalog_at inside.id (entries_of c.make_room.new.entries.entries) inside.log ≡ c.args.self.now =
    ap (λ pairs. catalog_at inside.id (entries_of pairs) inside.log) c.in_err-make_room.ensures.same ∙ c.self.view_is in
    subst (λ (v : CatalogView). Changes c.args.self.now v (c.args.self.now.entries ++ (c.args.number, standing_of c.args.entry) ∷ []) old old result) (sym same)
    (changes_nothing c.args.self.now (c.args.self.now.entries ++ (c.args.number, standing_of c.args.entry) ∷ []) old result (c.requires.kept told))

pub returns-in_err-append-clause-changes : goal.returns-in_err-append-clause-changes
returns-in_err-append-clause-changes g c told =
    let inside : CatalogView = catalog_at c.self.inside.id (entries_of c.self.inside.entries.entries) c.self.inside.log in
    let old = g.D.Disk.contents c.args.disk.now in
    let new = g.D.Disk.contents c.append.new.disk in
    let result = c.from_residual-in_err-append.result in
    let now : CatalogView = catalog_at inside.id (entries_of c.make_room.new.entries.entries) c.append.new.log in
    let each : EachCatalogue inside old = subst (λ (v : CatalogView). EachCatalogue v old) (sym c.self.view_is) (c.requires.kept told) in
    let absent : stands c.args.number inside.entries ≡ false = ap (λ (v : CatalogView). stands c.args.number v.entries) c.self.view_is ∙ c.requires.absent in
    let grows = enter_after inside.entries c.args.number (standing_of c.args.entry) absent in
    let spelled : c.as_slice.result.now ≡ catalogued_spelling (Entered c.args.number (standing_of c.args.entry)) = c.as_slice.ensures.value ∙ c.in_ok-payload.ensures.ok in
    subst (λ (v : CatalogView). Changes v now (v.entries ++ (c.args.number, standing_of c.args.entry) ∷ []) old new result) c.self.view_is
    (changes_by inside now (Entered c.args.number (standing_of c.args.entry)) (inside.entries ++ (c.args.number, standing_of c.args.entry) ∷ []) c.as_slice.result.now old new _ result
    each c.requires.in_form grows spelled (c.in_err-append.ensures.appends told) (no_ok result _ c.from_residual-in_err-append.ensures.0))

pub returns-clause-changes : goal.returns-clause-changes
returns-clause-changes g c told =
    let inside : CatalogView = catalog_at c.self.inside.id (entries_of c.self.inside.entries.entries) c.self.inside.log in
    let old = g.D.Disk.contents c.args.disk.now in
    let new = g.D.Disk.contents c.append.new.disk in
    let done : Result (Unit {0}) Fault = Ok tt in
    let now : CatalogView = catalog_at inside.id (entries_of c.add.new.entries.entries) c.append.new.log in
    let after : Entries = inside.entries ++ (c.args.number, standing_of c.args.entry) ∷ [] in
    let each : EachCatalogue inside old = subst (λ (v : CatalogView). EachCatalogue v old) (sym c.self.view_is) (c.requires.kept told) in
    let absent : stands c.args.number inside.entries ≡ false = ap (λ (v : CatalogView). stands c.args.number v.entries) c.self.view_is ∙ c.requires.absent in
    let grows = enter_after inside.entries c.args.number (standing_of c.args.entry) absent in
    let spelled : c.as_slice.result.now ≡ catalogued_spelling (Entered c.args.number (standing_of c.args.entry)) = c.as_slice.ensures.value ∙ c.in_ok-payload.ensures.ok in
    let log = subst (λ (p : List ℕ). EachLog c.append.new.log (each.payloads ++ p ∷ []) new) spelled ((c.in_ok-append.ensures.appends told).ok each.payloads each.log) in
    let entered : entries_of c.add.new.entries.entries ≡ after =
    c.add.ensures ∙ ap (λ pairs. entries_of pairs ++ (c.args.number, standing_of c.args.entry) ∷ []) c.in_ok-make_room.ensures.same in
    let kept = subst (λ (es : Entries). EachCatalogue (catalog_at inside.id es c.append.new.log) new) (sym entered)
    (each_grown inside (Entered c.args.number (standing_of c.args.entry)) after c.append.new.log old new each c.requires.in_form grows log) in
    subst (λ (v : CatalogView). Changes v now (v.entries ++ (c.args.number, standing_of c.args.entry) ∷ []) old new done) c.self.view_is
    (changes_by inside now (Entered c.args.number (standing_of c.args.entry)) after c.as_slice.result.now old new _ done
    each c.requires.in_form grows spelled (c.in_ok-append.ensures.appends told) kept)
