use Rattle.std.proofs.Common.{inl, rules}
use Rattle.pb_devices.proofs.Kept.{stays_same}
use Rattle.pb_recover.specs.Calls.{IsUnnamed}
use Rattle.pb_recover.proofs.Removing.{removes_nothing, removes_one}
use Rattle.pb_recover.proofs.sweep.remove_if_unnamed.Goals as goal

pub returns-then-not-is_unnamed-clause-removes : goal.returns-then-not-is_unnamed-clause-removes
returns-then-not-is_unnamed-clause-removes g c = λ told.
    let disk = g.D.Disk.contents c.args.disk.now in
    removes_nothing (IsUnnamed c.args.manifest c.args.catalogue c.args.version.now) disk disk (stays_same disk)

pub returns-in_err-remove-clause-removes : goal.returns-in_err-remove-clause-removes
returns-in_err-remove-clause-removes g c = λ told.
    removes_one (IsUnnamed c.args.manifest c.args.catalogue c.args.version.now) (g.D.Disk.contents c.args.disk.now)
    (g.D.Disk.contents c.remove.new.self) c.args.name.now (c.is_unnamed.ensures.yes (search rules)) (c.in_err-remove.ensures.err told)

pub returns-clause-removes : goal.returns-clause-removes
returns-clause-removes g c = λ told.
    removes_one (IsUnnamed c.args.manifest c.args.catalogue c.args.version.now) (g.D.Disk.contents c.args.disk.now)
    (g.D.Disk.contents c.remove.new.self) c.args.name.now (c.is_unnamed.ensures.yes (search rules)) (inl (c.in_ok-remove.ensures.ok told))
