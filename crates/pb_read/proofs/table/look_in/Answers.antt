use Rattle.std.proofs.Common.{List, map, Some, None, sym, ap, ◌∙◌}
use Rattle.std.proofs.lemmas.List.{drop_all}
use Rattle.pb_devices.proofs.Kept.{stays_then}
use Rattle.pb_rows.specs.Verdict.{verdicts}
use Rattle.pb_version.specs.Meaning.{layer_of_table}
use Rattle.pb_version.specs.Stored.{backing_of}
use Rattle.pb_version.specs.Version.{TableView}
use Rattle.pb_read.proofs.Devices.{damaged_before, going_on, missing_before, stored_at}
use Rattle.pb_read.proofs.Passing.{passed}
use Rattle.pb_read.proofs.table.look_in.Goals as goal

pub returns-in-Ok-Some-clause-stays : goal.returns-in-Ok-Some-clause-stays
returns-in-Ok-Some-clause-stays g c told =
    stays_then (g.D.Disk.contents c.args.disk.now) (g.D.Disk.contents c.loop-table.disk) (g.D.Disk.contents c.ask.new.disk)
    (c.loop-table.invariant.going.stays told) (c.in-Ok-Some.ensures.stays told)

pub returns-in-Ok-Some-clause-found : goal.returns-in-Ok-Some-clause-found
returns-in-Ok-Some-clause-found g c disk_tells bucket_tells layers all =
    passed (layer_of_table layers) c.args.tables.now c.loop-table.table-index c.table-item.result c.args.key.now (Some c.in-Ok-Some.answer)
    (verdicts (map (layer_of_table layers) c.args.tables.now) c.args.key.now) c.loop-table-test.true (sym c.table-item.is)
    (sym c.in-Ok-Some.field-0-is ∙ c.in-Ok-Some.ensures.found disk_tells bucket_tells (layers c.table-item.result.backing)
    (stored_at (g.D.Disk.contents c.args.disk.now) (g.D.Disk.contents c.loop-table.disk) (g.B.Bucket.objects c.args.bucket.now)
    (g.B.Bucket.objects c.loop-table.bucket) c.args.provider.now.catalogue.entries layers c.args.tables.now c.table-item.result
    (c.loop-table.invariant.going.stays disk_tells) (c.loop-table.invariant.going.kept bucket_tells) all
    (c.loop-table.table-index, c.loop-table-test.true, sym c.table-item.is)))
    (c.loop-table.invariant.silent disk_tells bucket_tells layers all)

pub returns-in-Err-clause-damaged : goal.returns-in-Err-clause-damaged
returns-in-Err-clause-damaged g c disk_tells bucket_tells name is =
    let found = c.in-Err.ensures.damaged disk_tells bucket_tells name is in
    record {
      table = c.table-item.result;
      stands = (c.loop-table.table-index, c.loop-table-test.true, sym c.table-item.is);
      holds = found.0;
      behind =
          damaged_before (g.D.Disk.contents c.args.disk.now) (g.D.Disk.contents c.loop-table.disk) (g.B.Bucket.objects c.args.bucket.now)
          (g.B.Bucket.objects c.loop-table.bucket) c.args.provider.now.catalogue.entries name (backing_of c.table-item.result)
          (c.loop-table.invariant.going.stays disk_tells) (c.loop-table.invariant.going.kept bucket_tells) found.1;
    }

pub returns-in-Err-clause-missing : goal.returns-in-Err-clause-missing
returns-in-Err-clause-missing g c told name is =
    let found = c.in-Err.ensures.missing told name is in
    record {
      table = c.table-item.result;
      stands = (c.loop-table.table-index, c.loop-table-test.true, sym c.table-item.is);
      holds = found.0;
      behind =
          missing_before (g.B.Bucket.objects c.args.bucket.now) (g.B.Bucket.objects c.loop-table.bucket)
          c.args.provider.now.catalogue.entries name (backing_of c.table-item.result) (c.loop-table.invariant.going.kept told) found.1;
    }

pub returns-in-Err-clause-stays : goal.returns-in-Err-clause-stays
returns-in-Err-clause-stays g c told =
    stays_then (g.D.Disk.contents c.args.disk.now) (g.D.Disk.contents c.loop-table.disk) (g.D.Disk.contents c.ask.new.disk)
    (c.loop-table.invariant.going.stays told) (c.in-Err.ensures.stays told)

pub returns-clause-found : goal.returns-clause-found
returns-clause-found g c disk_tells bucket_tells layers all =
    sym (ap (λ (ts : List TableView). verdicts (map (layer_of_table layers) ts) c.args.key.now)
    (drop_all c.loop-table.table-index c.args.tables.now c.loop-table-test.false))
    ∙ c.loop-table.invariant.silent disk_tells bucket_tells layers all

pub loop-table-preserved : goal.loop-table-preserved
loop-table-preserved g c = record {
  going =
      going_on g.D.Disk.told g.B.Bucket.told (g.D.Disk.contents c.args.disk.now)
      (g.D.Disk.contents c.loop-table.disk) (g.D.Disk.contents c.ask.new.disk)
      (g.B.Bucket.objects c.args.bucket.now) (g.B.Bucket.objects c.loop-table.bucket) (g.B.Bucket.objects c.ask.new.bucket)
      (g.D.Disk.fault_count c.args.disk.now) (g.D.Disk.fault_count c.loop-table.disk) (g.D.Disk.fault_count c.ask.new.disk)
      (g.B.Bucket.fault_count c.args.bucket.now) (g.B.Bucket.fault_count c.loop-table.bucket) (g.B.Bucket.fault_count c.ask.new.bucket)
      c.loop-table.invariant.going c.in-Ok-None.ensures.stays c.in-Ok-None.ensures.kept
      (c.in-Ok-None.ensures.disk_cause.calm tt) (c.in-Ok-None.ensures.bucket_cause.calm tt);
  silent = λ disk_tells bucket_tells layers all.
      passed (layer_of_table layers) c.args.tables.now c.loop-table.table-index c.table-item.result c.args.key.now None
      (verdicts (map (layer_of_table layers) c.args.tables.now) c.args.key.now) c.loop-table-test.true (sym c.table-item.is)
      (sym c.in-Ok-None.field-0-is ∙ c.in-Ok-None.ensures.found disk_tells bucket_tells (layers c.table-item.result.backing)
      (stored_at (g.D.Disk.contents c.args.disk.now) (g.D.Disk.contents c.loop-table.disk) (g.B.Bucket.objects c.args.bucket.now)
      (g.B.Bucket.objects c.loop-table.bucket) c.args.provider.now.catalogue.entries layers c.args.tables.now c.table-item.result
      (c.loop-table.invariant.going.stays disk_tells) (c.loop-table.invariant.going.kept bucket_tells) all
      (c.loop-table.table-index, c.loop-table-test.true, sym c.table-item.is)))
      (c.loop-table.invariant.silent disk_tells bucket_tells layers all);
}
