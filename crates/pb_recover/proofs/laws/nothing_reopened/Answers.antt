use Rattle.pb_recover.proofs.Chain.{barred, kept}
use Rattle.pb_recover.proofs.laws.nothing_reopened.Goals as goal

pub returns-clause-kept : goal.returns-clause-kept
returns-clause-kept g c = kept (g.D.Disk.contents c.args.old.now) (g.D.Disk.contents c.args.new.now)

pub returns-clause-barred : goal.returns-clause-barred
returns-clause-barred g c = λ told id settled.
    barred (g.D.Disk.contents c.args.old.now) (g.D.Disk.contents c.args.new.now) id
    (λ name. g.met.D.Disk.seen_may_be_left c.args.old.now name told) settled
