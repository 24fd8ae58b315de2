use Rattle.pb_recover.proofs.Steps.{opened}
use Rattle.pb_recover.proofs.laws.steps.a_log_is_opened.Goals as goal

pub returns : goal.returns
returns g c = λ told id name log there opens.
    opened id name (g.D.Disk.contents c.args.old.now) (g.D.Disk.contents c.args.new.now)
    (λ other. g.met.D.Disk.seen_may_be_left c.args.old.now other told) opens.others log there opens
