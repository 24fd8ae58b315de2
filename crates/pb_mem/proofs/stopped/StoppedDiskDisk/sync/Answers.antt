use Rattle.std.proofs.Common.{◌≡◌, OnErr, subst, ap, ◌∙◌}
use Rattle.pb_devices.specs.DiskCalls.{Stays}
use Rattle.pb_mem.specs.Stopped.{StoppedView}
use Rattle.pb_mem.proofs.stopped.StoppedDiskDisk.sync.Goals as goal

pub returns-clause-err : goal.returns-clause-err
returns-clause-err g c told =
    let same : c.self.inside.inner ≡ c.args.self.now.inner = ap (λ (d : StoppedView _). d.inner) c.self.view_is ∙ c.pass.ensures.inner in
    subst (λ inner. OnErr c.sync.result (Stays (g.D.Disk.contents inner) (g.D.Disk.contents c.sync.new.self))) same (c.sync.ensures.err told)
