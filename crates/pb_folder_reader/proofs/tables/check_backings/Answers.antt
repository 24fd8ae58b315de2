use Rattle.std.proofs.Common.{subst}
use Rattle.std.proofs.lemmas.Result.{err_from_is_err_and}
use Rattle.pb_edit.specs.Edit.{CreatedItem}
use Rattle.pb_folder_reader.specs.AtFault.{IsKeptAtFault, IsPlaceAtFault}
use Rattle.pb_folder_reader.proofs.Results.{if_damaged}
use Rattle.std.specs.List.{All}
use Rattle.std.proofs.lemmas.List.{take_all}
use Rattle.pb_folder.specs.Listed.{folder_of, objects_of}
use Rattle.pb_payloads.specs.Places.{bytes_of}
use Rattle.pb_folder_reader.specs.Tables.{HasSome}
use Rattle.pb_folder_reader.proofs.Lists.{All_next}
use Rattle.pb_folder_reader.proofs.tables.check_backings.Goals as goal

pub loop-backing-preserved : goal.loop-backing-preserved
loop-backing-preserved c =
    let places = bytes_of (folder_of c.args.files.now) (objects_of c.args.objects.now) c.args.entries.now in
    All_next (HasSome places) c.args.backings.now c.loop-backing.backing-index c.backing-item.result c.loop-backing-test.true c.backing-item.is c.loop-backing.invariant
    (subst (HasSome places) c.backing.view_is (c.in_ok-layer_of.field-0, c.in_ok-layer_of.ensures.ok))

pub returns-clause-ok : goal.returns-clause-ok
returns-clause-ok c =
    subst (All (HasSome (bytes_of (folder_of c.args.files.now) (objects_of c.args.objects.now) c.args.entries.now))) (take_all c.loop-backing.backing-index c.args.backings.now c.loop-backing-test.false) c.loop-backing.invariant

pub returns-in_err-layer_of-clause-err : goal.returns-in_err-layer_of-clause-err
returns-in_err-layer_of-clause-err c =
    let p = err_from_is_err_and c.from_residual.result c.from_residual.ensures.1 in
    let folder = folder_of c.args.files.now in
    let objects = objects_of c.args.objects.now in
    let entries = c.args.entries.now in
    let told = if_damaged c.in_err-layer_of.field-0.0 (IsPlaceAtFault folder objects entries c.backing.inside.number c.backing.inside.size)
    (IsKeptAtFault folder objects entries c.args.backings.now)
    (λ file is. (
      c.backing-item.result,
      (c.loop-backing.backing-index, c.loop-backing-test.true, c.backing-item.is),
      subst (λ (b : CreatedItem). IsPlaceAtFault folder objects entries b.number b.size file) c.backing.view_is is,
    ))
    c.in_err-layer_of.ensures.err in
    rw (p.1, p.2) told
