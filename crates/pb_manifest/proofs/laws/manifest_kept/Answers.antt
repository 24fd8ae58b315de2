use Rattle.pb_manifest.proofs.Folders as folders
use Rattle.pb_manifest.proofs.laws.manifest_kept.Goals as goal

pub returns : goal.returns
returns g c = λ manifest version current log each.
    folders.manifest_kept manifest version (g.D.Disk.contents c.args.old.now) (g.D.Disk.contents c.args.new.now) current log each
