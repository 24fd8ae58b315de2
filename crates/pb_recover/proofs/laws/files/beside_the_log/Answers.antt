use Rattle.pb_recover.proofs.Files.{log_kept}
use Rattle.pb_recover.proofs.laws.files.beside_the_log.Goals as goal

pub returns : goal.returns
returns g c = λ files others kept. log_kept files (g.D.Disk.contents c.args.old.now) (g.D.Disk.contents c.args.new.now) others kept
