use Rattle.pb_store.proofs.Moves.{shows_kept}
use Rattle.pb_store.proofs.laws.kept_files_show.Goals as goal

pub returns : goal.returns
returns g c = λ old new ready kept draws folder image. shows_kept old new (g.D.Disk.contents c.args.disk.now) ready kept draws folder image
