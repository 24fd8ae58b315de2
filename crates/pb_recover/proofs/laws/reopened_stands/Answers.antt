use Rattle.pb_recover.proofs.Chain.{stood}
use Rattle.pb_recover.proofs.laws.reopened_stands.Goals as goal

pub returns : goal.returns
returns g c = stood (g.D.Disk.contents c.args.old.now) (g.D.Disk.contents c.args.new.now)
