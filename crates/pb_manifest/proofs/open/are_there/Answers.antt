use Rattle.pb_devices.proofs.Kept.{stays_then}
use Rattle.pb_manifest.proofs.open.are_there.Goals as goal

pub returns-in_err-catalogue-clause-stays : goal.returns-in_err-catalogue-clause-stays
returns-in_err-catalogue-clause-stays g c = λ told.
    stays_then (g.D.Disk.contents c.args.disk.now) (g.D.Disk.contents c.is_there.new.disk) (g.D.Disk.contents c.is_there-2.new.disk)
    (c.in_ok-manifest.ensures.stays told) (c.in_err-catalogue.ensures.stays told)

pub returns-then-manifest-clause-stays : goal.returns-then-manifest-clause-stays
returns-then-manifest-clause-stays g c = λ told.
    stays_then (g.D.Disk.contents c.args.disk.now) (g.D.Disk.contents c.is_there.new.disk) (g.D.Disk.contents c.is_there-2.new.disk)
    (c.in_ok-manifest.ensures.stays told) (c.in_ok-catalogue.ensures.stays told)

pub returns-else-manifest-clause-stays : goal.returns-else-manifest-clause-stays
returns-else-manifest-clause-stays g c = λ told.
    stays_then (g.D.Disk.contents c.args.disk.now) (g.D.Disk.contents c.is_there.new.disk) (g.D.Disk.contents c.is_there-2.new.disk)
    (c.in_ok-manifest.ensures.stays told) (c.in_ok-catalogue.ensures.stays told)
