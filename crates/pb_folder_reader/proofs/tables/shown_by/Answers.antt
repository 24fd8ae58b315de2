use Rattle.std.proofs.Common.{◌≡◌, List, subst, sym, ap, ◌∙◌, inl, inr}
use Rattle.std.specs.List.{All}
use Rattle.std.proofs.lemmas.Result.{err_from_is_err_and}
use Rattle.pb_edit.specs.Edit.{CreatedItem, VersionEdit}
use Rattle.pb_folder.specs.Listed.{folder_of, objects_of}
use Rattle.pb_payloads.specs.Places.{bytes_of}
use Rattle.pb_version.specs.Version.{all_tables}
use Rattle.pb_folder_reader.specs.AtFault.{AreTablesAtFault, IsKeptAtFault, IsShownAtFault}
use Rattle.pb_folder_reader.specs.Tables.{HasSome}
use Rattle.pb_folder_reader.proofs.Layers.{shows_all}
use Rattle.pb_folder_reader.proofs.Results.{if_damaged}
use Rattle.pb_folder_reader.proofs.tables.shown_by.Goals as goal

pub returns-in_err-shown-clause-err : goal.returns-in_err-shown-clause-err
returns-in_err-shown-clause-err c =
    let p = err_from_is_err_and c.from_residual.result c.from_residual.ensures.1 in
    let folder = folder_of c.args.files.now in
    let objects = objects_of c.args.objects.now in
    let entries = c.args.entries.now in
    let told = if_damaged c.in_err-shown.field-0.0 (IsShownAtFault folder objects entries (all_tables c.args.version.now))
    (AreTablesAtFault folder objects entries c.args.version.now)
    (λ file is. inl is) c.in_err-shown.ensures.err in
    rw (p.1, p.2) told

pub returns-in_err-check_backings-clause-err : goal.returns-in_err-check_backings-clause-err
returns-in_err-check_backings-clause-err c =
    let p = err_from_is_err_and c.from_residual-in_err-check_backings.result c.from_residual-in_err-check_backings.ensures.1 in
    let folder = folder_of c.args.files.now in
    let objects = objects_of c.args.objects.now in
    let entries = c.args.entries.now in
    let version = c.args.version.now in
    let backings = c.as_slice.result.now in
    let same : backings ≡ version.backings = c.as_slice.ensures ∙ ap (λ (e : VersionEdit). e.created) (c.snapshot-2.view_is ∙ c.in_ok-snapshot.ensures.ok) in
    let told = if_damaged c.in_err-check_backings.field-0.0 (IsKeptAtFault folder objects entries backings) (AreTablesAtFault folder objects entries version)
    (λ file is. inr (subst (λ (bs : List CreatedItem). IsKeptAtFault folder objects entries bs file) same is)) c.in_err-check_backings.ensures.err in
    rw (p.1, p.2) told

pub returns-clause-ok : goal.returns-clause-ok
returns-clause-ok c =
    let places = bytes_of (folder_of c.args.files.now) (objects_of c.args.objects.now) c.args.entries.now in
    let version = c.args.version.now in
    let shown = c.in_ok-shown.shown.items in
    let same : c.as_slice.result.now ≡ version.backings = c.as_slice.ensures ∙ ap (λ (e : VersionEdit). e.created) (c.snapshot-2.view_is ∙ c.in_ok-snapshot.ensures.ok) in
    shows_all places version shown
    c.in_ok-shown.ensures.ok
    (subst (All (HasSome places)) same c.in_ok-check_backings.ensures.ok)
