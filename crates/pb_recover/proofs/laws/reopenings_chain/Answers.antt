use Rattle.pb_recover.proofs.Chain.{chained}
use Rattle.pb_recover.proofs.laws.reopenings_chain.Goals as goal

pub returns : goal.returns
returns g c = chained (g.D.Disk.contents c.args.old.now) (g.D.Disk.contents c.args.mid.now) (g.D.Disk.contents c.args.new.now)
