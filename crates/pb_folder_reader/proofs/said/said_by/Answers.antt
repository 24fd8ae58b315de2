use Rattle.std.proofs.Common.{◌<◌, sym, ap, ◌∙◌, arith, subst}
use Rattle.std.specs.List.{All}
use Rattle.std.specs.Prelude.{IsTrue}
use Rattle.pb_payloads.specs.Catalogue.{Entries}
use Rattle.std.proofs.lemmas.Result.{err_from_is_err_and}
use Rattle.pb_folder.specs.Listed.{folder_of}
use Rattle.pb_payloads.specs.Current.{pointer_to}
use Rattle.pb_version.specs.Version.{FiveNumbers}
use Rattle.pb_folder_reader.specs.AtFault.{IsCatalogueAtFault, IsLogAtFault, IsManifestAtFault, IsSaidAtFault}
use Rattle.pb_folder_reader.specs.AtFault.IsSaidAtFault.{OfManifest, OfOwnNumber, OfCatalogue, OfEntry, OfLog}
use Rattle.pb_folder_reader.proofs.Results.{if_damaged}
use Rattle.pb_folder_reader.proofs.said.said_by.Goals as goal

pub returns-in_err-version-clause-err : goal.returns-in_err-version-clause-err
returns-in_err-version-clause-err c =
    let p = err_from_is_err_and c.from_residual.result c.from_residual.ensures.1 in
    let folder = folder_of c.args.files.now in
    let told = if_damaged c.in_err-version.field-0.0 (IsManifestAtFault folder c.args.manifest)
    (IsSaidAtFault folder c.args.id (pointer_to c.args.manifest c.args.catalogue)) (λ file is. OfManifest is) c.in_err-version.ensures.err in
    rw (p.1, p.2) told

pub returns-then-manifest-five-clause-err : goal.returns-then-manifest-five-clause-err
returns-then-manifest-five-clause-err c =
    let five = c.five.view_is ∙ c.five-five.ensures.value in
    let high = c.if-manifest-five.true in
    OfOwnNumber c.in_ok-version.version c.in_ok-version.ensures.ok (omega (arith, high, ap (λ (f : FiveNumbers). f.next) five)) c.current.ensures

pub returns-in_err-entries-clause-err : goal.returns-in_err-entries-clause-err
returns-in_err-entries-clause-err c =
    let p = err_from_is_err_and c.from_residual-in_err-entries.result c.from_residual-in_err-entries.ensures.1 in
    let folder = folder_of c.args.files.now in
    let told = if_damaged c.in_err-entries.field-0.0 (IsCatalogueAtFault folder c.args.catalogue c.args.id)
    (IsSaidAtFault folder c.args.id (pointer_to c.args.manifest c.args.catalogue)) (λ file is. OfCatalogue is) c.in_err-entries.ensures.err in
    rw (p.1, p.2) told

pub returns-in_err-log-clause-err : goal.returns-in_err-log-clause-err
returns-in_err-log-clause-err c =
    let p = err_from_is_err_and c.from_residual-in_err-log.result c.from_residual-in_err-log.ensures.1 in
    let folder = folder_of c.args.files.now in
    let five = c.five.view_is ∙ c.five-five.ensures.value in
    let told = if_damaged c.in_err-log.field-0.0 (IsLogAtFault folder c.five.inside.log c.five.inside.flushed)
    (IsSaidAtFault folder c.args.id (pointer_to c.args.manifest c.args.catalogue))
    (λ file is.
    OfLog c.in_ok-version.version c.in_ok-version.ensures.ok (subst (λ (f : FiveNumbers). IsLogAtFault folder f.log f.flushed file) five is))
    c.in_err-log.ensures.err in
    rw (p.1, p.2) told

pub returns-then-not-are_below-clause-err : goal.returns-then-not-are_below-clause-err
returns-then-not-are_below-clause-err c =
    let five = c.five.view_is ∙ c.five-five.ensures.value in
    let entries : Entries = c.in_ok-entries.entries.items in
    OfEntry c.in_ok-version.version entries c.in_ok-version.ensures.ok c.in_ok-entries.ensures.ok
    (λ all.
    let own = subst (λ (f : FiveNumbers). All (λ entry. entry.0 < f.next) entries) (sym five) all in
    let below = subst (λ (list : Entries). All (λ entry. entry.0 < c.five.inside.next) list) (sym c.deref.ensures.value) own in
    let yes : IsTrue c.are_below.result = c.are_below.ensures.1 below in
    let tested = c.if-not-are_below.true in
    cc)
    c.file.ensures
