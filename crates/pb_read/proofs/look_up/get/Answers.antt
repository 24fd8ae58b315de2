use Rattle.std.proofs.Common.{Some, None, sym, ◌∙◌}
use Rattle.pb_folder.specs.Held.{IsStored}
use Rattle.pb_version.specs.Meaning.{map_of}
use Rattle.pb_read.proofs.Maps.{by_commands, by_tables}
use Rattle.pb_read.proofs.Passing.{each_behind}
use Rattle.pb_read.proofs.look_up.get.Goals as goal

pub returns-in-Ok-Some-clause-found : goal.returns-in-Ok-Some-clause-found
returns-in-Ok-Some-clause-found g c disk_tells bucket_tells layers holds =
    by_commands c.args.memtable.now.changes (map_of c.args.version.now layers) c.args.key.now (Some c.in-Ok-Some.answer)
    (sym c.in-Ok-Some.field-0-is ∙ c.in-Ok-Some.ensures ∙ c.get.ensures)

pub returns-in-Ok-Some-look_up-clause-found : goal.returns-in-Ok-Some-look_up-clause-found
returns-in-Ok-Some-look_up-clause-found g c disk_tells bucket_tells layers holds =
    let said = sym c.in-Ok-Some-look_up.field-0-is ∙ c.in-Ok-Some-look_up.ensures.found disk_tells bucket_tells layers
    (each_behind (IsStored (g.D.Disk.contents c.args.disk.now).seen (g.B.Bucket.objects c.args.bucket.now)
    c.args.provider.now.catalogue.entries layers) c.args.version.now holds.stored) in
    by_tables c.args.version.now layers c.args.key.now (Some c.in-Ok-Some-look_up.answer) said
    ∙ by_commands c.args.memtable.now.changes (map_of c.args.version.now layers) c.args.key.now None
    (sym c.in-Ok-None.field-0-is ∙ c.in-Ok-None.ensures ∙ c.get.ensures)

pub returns-in-Ok-None-look_up-clause-found : goal.returns-in-Ok-None-look_up-clause-found
returns-in-Ok-None-look_up-clause-found g c disk_tells bucket_tells layers holds =
    let said = sym c.in-Ok-None-look_up.field-0-is ∙ c.in-Ok-None-look_up.ensures.found disk_tells bucket_tells layers
    (each_behind (IsStored (g.D.Disk.contents c.args.disk.now).seen (g.B.Bucket.objects c.args.bucket.now)
    c.args.provider.now.catalogue.entries layers) c.args.version.now holds.stored) in
    by_tables c.args.version.now layers c.args.key.now None said
    ∙ by_commands c.args.memtable.now.changes (map_of c.args.version.now layers) c.args.key.now None
    (sym c.in-Ok-None.field-0-is ∙ c.in-Ok-None.ensures ∙ c.get.ensures)
