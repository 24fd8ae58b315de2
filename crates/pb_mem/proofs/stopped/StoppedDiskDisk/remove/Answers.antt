use Rattle.std.proofs.Common.{◌≡◌, ◌⊎◌, OnErr, subst, ap, ◌∙◌}
use Rattle.pb_devices.specs.DiskCalls.{Stays, IsRemoved}
use Rattle.pb_mem.specs.Stopped.{StoppedView}
use Rattle.pb_mem.proofs.stopped.StoppedDiskDisk.remove.Goals as goal

pub returns-clause-err : goal.returns-clause-err
returns-clause-err g c told =
    let same : c.self.inside.inner ≡ c.args.self.now.inner = ap (λ (d : StoppedView _). d.inner) c.self.view_is ∙ c.pass.ensures.inner in
    subst (λ inner. OnErr c.remove.result (IsRemoved (g.D.Disk.contents inner) (g.D.Disk.contents c.remove.new.self) c.args.file.now ⊎ Stays (g.D.Disk.contents inner) (g.D.Disk.contents c.remove.new.self))) same (c.remove.ensures.err told)
