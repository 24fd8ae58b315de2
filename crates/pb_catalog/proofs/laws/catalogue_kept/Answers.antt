use Rattle.pb_catalog.proofs.Images.{catalogue_kept}
use Rattle.pb_catalog.proofs.laws.catalogue_kept.Goals as goal

pub returns : goal.returns
returns g c = λ catalog. catalogue_kept catalog (g.D.Disk.contents c.args.old.now) (g.D.Disk.contents c.args.new.now)
