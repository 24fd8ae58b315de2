use Rattle.std.proofs.Common.{◌≡◌, List, [], drop, map, Some, None, sym, ap, ◌∙◌, arith}
use Rattle.std.proofs.lemmas.List.{drop_all}
use Rattle.pb_devices.proofs.Kept.{stays_then}
use Rattle.pb_read.specs.Damage.{IsDamaged, IsMissing}
use Rattle.pb_read.specs.Tables.{IsByBounds}
use Rattle.pb_rows.specs.Verdict.{verdicts}
use Rattle.pb_version.specs.Meaning.{layer_of_table}
use Rattle.pb_version.specs.Version.{TableView, flattened}
use Rattle.pb_version.proofs.Views.{viewed_by_bounds}
use Rattle.pb_read.proofs.Devices.{all_stored, damaged_before, going_on, has_table, missing_before}
use Rattle.pb_read.proofs.Passing.{all_within, flattened_at, is_level, on_deeper}
use Rattle.pb_read.proofs.look_up.look_up.Goals as goal

pub look_in-requires : goal.look_in-requires
look_in-requires g c =
    let levels = c.args.version.now.levels in
    let tables = c.tables.result.now in
    let here =
    is_level levels c.loop-level.level tables
    (omega (arith, c.loop-level-test.true, c.tables.ensures.in_form.levels)) c.tables.ensures.value
    c.loop-level.invariant.within in
    all_within IsByBounds tables (flattened levels) here.within (viewed_by_bounds c.args.version.now c.tables.ensures.in_form)

pub returns-in-Ok-Some-clause-found : goal.returns-in-Ok-Some-clause-found
returns-in-Ok-Some-clause-found g c disk_tells bucket_tells layers all =
    let levels = c.args.version.now.levels in
    let tables = c.tables.result.now in
    let here =
    is_level levels c.loop-level.level tables
    (omega (arith, c.loop-level-test.true, c.tables.ensures.in_form.levels)) c.tables.ensures.value
    c.loop-level.invariant.within in
    flattened_at (layer_of_table layers) levels c.loop-level.level tables c.args.key.now (Some c.in-Ok-Some.answer)
    (verdicts (map (layer_of_table layers) (flattened levels)) c.args.key.now) here.first
    (◌∙◌ {c = verdicts (map (layer_of_table layers) tables) c.args.key.now} (sym c.in-Ok-Some.field-0-is)
    (c.in-Ok-Some.ensures.found disk_tells bucket_tells layers
    (all_stored (g.D.Disk.contents c.args.disk.now) (g.D.Disk.contents c.loop-level.disk)
    (g.B.Bucket.objects c.args.bucket.now) (g.B.Bucket.objects c.loop-level.bucket)
    c.args.provider.now.catalogue.entries layers (flattened levels) tables
    (c.loop-level.invariant.going.stays disk_tells) (c.loop-level.invariant.going.kept bucket_tells) all here.within)))
    (c.loop-level.invariant.silent disk_tells bucket_tells layers all)

pub returns-in-Ok-Some-clause-stays : goal.returns-in-Ok-Some-clause-stays
returns-in-Ok-Some-clause-stays g c told =
    stays_then (g.D.Disk.contents c.args.disk.now) (g.D.Disk.contents c.loop-level.disk) (g.D.Disk.contents c.look_in.new.disk)
    (c.loop-level.invariant.going.stays told) (c.in-Ok-Some.ensures.stays told)

pub returns-in-Err-clause-damaged : goal.returns-in-Err-clause-damaged
returns-in-Err-clause-damaged g c disk_tells bucket_tells name is =
    let levels = c.args.version.now.levels in
    let tables = c.tables.result.now in
    let here =
    is_level levels c.loop-level.level tables
    (omega (arith, c.loop-level-test.true, c.tables.ensures.in_form.levels)) c.tables.ensures.value
    c.loop-level.invariant.within in
    has_table (IsDamaged
    (g.D.Disk.contents c.loop-level.disk).seen (g.B.Bucket.objects c.loop-level.bucket) c.args.provider.now.catalogue.entries name)
    (IsDamaged (g.D.Disk.contents c.args.disk.now).seen (g.B.Bucket.objects c.args.bucket.now) c.args.provider.now.catalogue.entries name)
    c.args.key.now (flattened levels) tables here.within
    (λ item. damaged_before (g.D.Disk.contents c.args.disk.now) (g.D.Disk.contents c.loop-level.disk)
    (g.B.Bucket.objects c.args.bucket.now) (g.B.Bucket.objects c.loop-level.bucket)
    c.args.provider.now.catalogue.entries name item
    (c.loop-level.invariant.going.stays disk_tells) (c.loop-level.invariant.going.kept bucket_tells))
    (c.in-Err.ensures.damaged disk_tells bucket_tells name is)

pub returns-in-Err-clause-missing : goal.returns-in-Err-clause-missing
returns-in-Err-clause-missing g c told name is =
    let levels = c.args.version.now.levels in
    let tables = c.tables.result.now in
    let here =
    is_level levels c.loop-level.level tables
    (omega (arith, c.loop-level-test.true, c.tables.ensures.in_form.levels)) c.tables.ensures.value
    c.loop-level.invariant.within in
    has_table (IsMissing (g.B.Bucket.objects c.loop-level.bucket) c.args.provider.now.catalogue.entries name)
    (IsMissing (g.B.Bucket.objects c.args.bucket.now) c.args.provider.now.catalogue.entries name)
    c.args.key.now (flattened levels) tables here.within
    (λ item. missing_before (g.B.Bucket.objects c.args.bucket.now) (g.B.Bucket.objects c.loop-level.bucket)
    c.args.provider.now.catalogue.entries name item (c.loop-level.invariant.going.kept told))
    (c.in-Err.ensures.missing told name is)

pub returns-in-Err-clause-stays : goal.returns-in-Err-clause-stays
returns-in-Err-clause-stays g c told =
    stays_then (g.D.Disk.contents c.args.disk.now) (g.D.Disk.contents c.loop-level.disk) (g.D.Disk.contents c.look_in.new.disk)
    (c.loop-level.invariant.going.stays told) (c.in-Err.ensures.stays told)

pub returns-clause-found : goal.returns-clause-found
returns-clause-found g c disk_tells bucket_tells layers all =
    let levels = c.args.version.now.levels in
    let left : drop c.loop-level.level levels ≡ [] =
    drop_all c.loop-level.level levels (omega (arith, c.loop-level-test.false, c.five-five.ensures.in_form.levels)) in
    sym (ap (λ (ls : List (List TableView)). verdicts (map (layer_of_table layers) (flattened ls)) c.args.key.now) left)
    ∙ c.loop-level.invariant.silent disk_tells bucket_tells layers all

pub loop-level-preserved : goal.loop-level-preserved
loop-level-preserved g c =
    let levels = c.args.version.now.levels in
    let tables = c.tables.result.now in
    let here =
    is_level levels c.loop-level.level tables
    (omega (arith, c.loop-level-test.true, c.tables.ensures.in_form.levels)) c.tables.ensures.value
    c.loop-level.invariant.within in
    record {
      going =
          going_on g.D.Disk.told g.B.Bucket.told (g.D.Disk.contents c.args.disk.now)
          (g.D.Disk.contents c.loop-level.disk) (g.D.Disk.contents c.look_in.new.disk)
          (g.B.Bucket.objects c.args.bucket.now) (g.B.Bucket.objects c.loop-level.bucket) (g.B.Bucket.objects c.look_in.new.bucket)
          (g.D.Disk.fault_count c.args.disk.now) (g.D.Disk.fault_count c.loop-level.disk) (g.D.Disk.fault_count c.look_in.new.disk)
          (g.B.Bucket.fault_count c.args.bucket.now) (g.B.Bucket.fault_count c.loop-level.bucket)
          (g.B.Bucket.fault_count c.look_in.new.bucket)
          c.loop-level.invariant.going c.in-Ok-None.ensures.stays c.in-Ok-None.ensures.kept
          (c.in-Ok-None.ensures.disk_cause.calm tt) (c.in-Ok-None.ensures.bucket_cause.calm tt);
      within = λ t has. c.loop-level.invariant.within t (on_deeper levels c.loop-level.level tables t here.first has);
      silent = λ disk_tells bucket_tells layers all.
          flattened_at (layer_of_table layers) levels c.loop-level.level tables c.args.key.now None
          (verdicts (map (layer_of_table layers) (flattened levels)) c.args.key.now) here.first
          (◌∙◌ {c = verdicts (map (layer_of_table layers) tables) c.args.key.now} (sym c.in-Ok-None.field-0-is)
          (c.in-Ok-None.ensures.found disk_tells bucket_tells layers
          (all_stored (g.D.Disk.contents c.args.disk.now) (g.D.Disk.contents c.loop-level.disk)
          (g.B.Bucket.objects c.args.bucket.now) (g.B.Bucket.objects c.loop-level.bucket)
          c.args.provider.now.catalogue.entries layers (flattened levels) tables
          (c.loop-level.invariant.going.stays disk_tells) (c.loop-level.invariant.going.kept bucket_tells) all here.within)))
          (c.loop-level.invariant.silent disk_tells bucket_tells layers all);
    }
