use Rattle.std.proofs.Common.{◌≡◌, length, subst, ap, ◌∙◌}
use Rattle.pb_devices.specs.DiskCalls.{IsWritten}
use Rattle.pb_mem.specs.Stopped.{StoppedView}
use Rattle.pb_mem.proofs.stopped.StoppedDiskDisk.write_at.Goals as goal

pub returns-clause-written : goal.returns-clause-written
returns-clause-written g c told =
    let same : c.self.inside.inner ≡ c.args.self.now.inner = ap (λ (d : StoppedView _). d.inner) c.self.view_is ∙ c.pass.ensures.inner in
    subst (λ inner. IsWritten (g.D.Disk.contents inner) (g.D.Disk.contents c.write_at.new.self) c.args.file.now c.args.at (length c.args.bytes.now)) same (c.write_at.ensures.written told)
