use Rattle.pb_recover.proofs.Settling.{manifest_opened}
use Rattle.pb_recover.proofs.laws.steps.a_manifest_is_opened.Goals as goal

pub returns : goal.returns
returns g c = λ told id settled keeps unnamed.
    manifest_opened id (g.D.Disk.contents c.args.old.now) (g.D.Disk.contents c.args.new.now)
    (λ name. g.met.D.Disk.seen_may_be_left c.args.old.now name told) settled keeps unnamed
