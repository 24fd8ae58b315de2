use Rattle.pb_recover.proofs.Files.{files_kept}
use Rattle.pb_recover.proofs.laws.files.files_are_kept.Goals as goal

pub returns : goal.returns
returns g c = λ files name others apart claims kept.
    files_kept files name (g.D.Disk.contents c.args.old.now) (g.D.Disk.contents c.args.new.now) others apart claims kept
