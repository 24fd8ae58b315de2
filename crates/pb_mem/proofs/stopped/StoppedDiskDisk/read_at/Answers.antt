use Rattle.std.proofs.Common.{◌≡◌, subst, ap, ◌∙◌}
use Rattle.pb_devices.specs.DiskCalls.{Stays}
use Rattle.pb_mem.specs.Stopped.{StoppedView}
use Rattle.pb_mem.proofs.stopped.StoppedDiskDisk.read_at.Goals as goal

pub returns-clause-kept : goal.returns-clause-kept
returns-clause-kept g c told =
    let same : c.self.inside.inner ≡ c.args.self.now.inner = ap (λ (d : StoppedView _). d.inner) c.self.view_is ∙ c.pass.ensures.inner in
    subst (λ inner. Stays (g.D.Disk.contents inner) (g.D.Disk.contents c.read_at.new.self)) same (c.read_at.ensures.kept told)
