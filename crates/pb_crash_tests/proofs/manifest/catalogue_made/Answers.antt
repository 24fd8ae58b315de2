use Rattle.std.proofs.Common.{ℕ, List, subst}
use Rattle.pb_mem.proofs.FolderLemmas.{always_ok}
use Rattle.pb_devices.specs.Contents.{KeepsOthers}
use Rattle.pb_crash_tests.specs.Driven.{IsUnmade}
use Rattle.pb_crash_tests.proofs.Driving.{catalogue_alone}
use Rattle.pb_crash_tests.proofs.manifest.catalogue_made.Goals as goal

pub returns : goal.returns
returns g c told =
    let old = g.D.Disk.contents c.args.disk.now in
    let new = g.D.Disk.contents c.make_file.new.disk in
    let unmade : IsUnmade new =
    catalogue_alone old new (λ name. g.met.D.Disk.seen_may_be_left c.args.disk.now name told) (c.requires told)
    (subst (λ (n : List ℕ). KeepsOthers old new n) c.file.ensures (c.make_file.ensures told)) in
    always_ok c.make_file.result unmade
