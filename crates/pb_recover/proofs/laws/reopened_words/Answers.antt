use Rattle.pb_recover.proofs.Chain.{shown}
use Rattle.pb_recover.proofs.laws.reopened_words.Goals as goal

pub returns : goal.returns
returns g c = shown (g.D.Disk.contents c.args.old.now) (g.D.Disk.contents c.args.new.now)
