use Rattle.std.proofs.Common.{◌≡◌, [], List, drop, subst, sym}
use Rattle.std.proofs.lemmas.List.{append-nil, drop_all}
use Rattle.std.proofs.lemmas.Result.{err_from_is_err_and}
use Rattle.pb_folder.specs.Listed.{folder_of, objects_of}
use Rattle.pb_payloads.specs.Places.{bytes_of}
use Rattle.pb_version.specs.Version.{TableView}
use Rattle.pb_folder_reader.specs.AtFault.{IsShownAtFault, IsTableAtFault}
use Rattle.pb_folder_reader.specs.Tables.{AllShow}
use Rattle.pb_folder_reader.proofs.Results.{if_damaged}
use Rattle.pb_folder_reader.proofs.tables.shown_tables.Goals as goal

pub returns-in_err-next-clause-err : goal.returns-in_err-next-clause-err
returns-in_err-next-clause-err c =
    let p = err_from_is_err_and c.from_residual.result c.from_residual.ensures.1 in
    let folder = folder_of c.args.files.now in
    let objects = objects_of c.args.objects.now in
    let entries = c.args.entries.now in
    let table = c.table-item.result in
    let told = if_damaged c.in_err-next.field-0.0 (IsTableAtFault folder objects entries table) (IsShownAtFault folder objects entries c.args.tables.now)
    (λ file is. (table, (c.loop-table.table-index, c.loop-table-test.true, c.table-item.is), is)) c.in_err-next.ensures.err in
    rw (p.1, p.2) told

pub returns-clause-ok : goal.returns-clause-ok
returns-clause-ok c =
    let places = bytes_of (folder_of c.args.files.now) (objects_of c.args.objects.now) c.args.entries.now in
    let tables = c.args.tables.now in
    let left : drop c.loop-table.table-index tables ≡ [] = drop_all c.loop-table.table-index tables c.loop-table-test.false in
    subst (AllShow places tables) (append-nil c.loop-table.shown.items)
    (c.loop-table.invariant [] (subst (λ (ts : List TableView). AllShow places ts []) (sym left) tt))
