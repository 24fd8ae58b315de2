use Rattle.pb_manifest.proofs.Folders as folders
use Rattle.pb_manifest.proofs.laws.each_says.Goals as goal

pub returns : goal.returns
returns g c = λ manifest version each folder image. folders.each_says manifest version (g.D.Disk.contents c.args.disk.now) each folder image
