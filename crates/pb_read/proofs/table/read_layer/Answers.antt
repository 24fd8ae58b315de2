use Rattle.std.proofs.Common.{sym, ap, ◌∙◌, subst}
use Rattle.std.proofs.lemmas.Option.{same_Some}
use Rattle.pb_folder.specs.Held.{IsTableOf}
use Rattle.pb_rows.specs.Viewed.{viewed}
use Rattle.pb_version.specs.Stored.{backing_of}
use Rattle.pb_version.specs.Version.{TableView}
use Rattle.pb_read.specs.Damage.{place_name}
use Rattle.pb_read.proofs.Reading.{IsFront, damaged_of, no_value, read_table_of, same_damaged}
use Rattle.pb_read.proofs.table.read_layer.Goals as goal

pub returns-in-Ok-Some-clause-shown : goal.returns-in-Ok-Some-clause-shown
returns-in-Ok-Some-clause-shown g c disk_tells bucket_tells layer has =
    let folder = (g.D.Disk.contents c.args.disk.now).seen in
    let objects = g.B.Bucket.objects c.args.bucket.now in
    let entries = c.args.provider.now.catalogue.entries in
    let table = c.args.table.now in
    let read = c.in-Ok.bytes.items in
    let front =
    subst (λ (t : TableView). IsFront folder objects entries (backing_of t) read) c.table.view_is
    (c.in-Ok.ensures.read disk_tells bucket_tells) in
    let is_table =
    subst (IsTableOf table.size layer) (sym c.as_slice.ensures.value)
    (read_table_of folder objects entries (backing_of table) read layer front has) in
    same_Some c.in-Ok-Some.layer (viewed table.view layer) (sym c.in-Ok-Some.field-0-is ∙ c.in-Ok-Some.ensures.exact layer is_table)

pub returns-in-Ok-None-clause-damaged : goal.returns-in-Ok-None-clause-damaged
returns-in-Ok-None-clause-damaged g c disk_tells bucket_tells name is =
    let folder = (g.D.Disk.contents c.args.disk.now).seen in
    let objects = g.B.Bucket.objects c.args.bucket.now in
    let entries = c.args.provider.now.catalogue.entries in
    let table = c.args.table.now in
    let read = c.in-Ok.bytes.items in
    let front =
    subst (λ (t : TableView). IsFront folder objects entries (backing_of t) read) c.table.view_is
    (c.in-Ok.ensures.read disk_tells bucket_tells) in
    let named =
    sym (same_damaged c.place_of.result name is) ∙ c.place_of.ensures
    ∙ ap (λ (t : TableView). place_name entries t.backing) c.table.view_is in
    damaged_of folder objects entries name (backing_of table) read named front
    (λ layer is_table. no_value (viewed table.view layer)
    (sym c.in-Ok-None.field-0-is
    ∙ c.in-Ok-None.ensures.exact layer (subst (IsTableOf table.size layer) (sym c.as_slice.ensures.value) is_table)))
