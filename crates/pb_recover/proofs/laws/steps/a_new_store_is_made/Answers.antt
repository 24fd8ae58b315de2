use Rattle.pb_recover.proofs.Settling.{store_made}
use Rattle.pb_recover.proofs.laws.steps.a_new_store_is_made.Goals as goal

pub returns : goal.returns
returns g c = λ told id settled none keeps made.
    store_made id (g.D.Disk.contents c.args.old.now) (g.D.Disk.contents c.args.new.now)
    (λ name. g.met.D.Disk.seen_may_be_left c.args.old.now name told) settled none keeps made
