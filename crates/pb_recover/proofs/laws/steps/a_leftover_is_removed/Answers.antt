use Rattle.pb_recover.proofs.Steps.{removed_or_left}
use Rattle.pb_recover.proofs.laws.steps.a_leftover_is_removed.Goals as goal

pub returns : goal.returns
returns g c = λ told id said name numbered unnamed words left.
    removed_or_left id said name (g.D.Disk.contents c.args.old.now) (g.D.Disk.contents c.args.new.now)
    (λ other. g.met.D.Disk.seen_may_be_left c.args.old.now other told) numbered unnamed words left
