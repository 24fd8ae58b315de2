use Rattle.pb_devices.proofs.Kept.{barred_kept, kept_then}
use Rattle.pb_provider.proofs.local.create_file.Goals as goal

pub returns-clause-others : goal.returns-clause-others
returns-clause-others g c told =
    let mid = g.D.Disk.contents c.write_whole.new.disk in
    let new = g.D.Disk.contents c.barrier.new.self in
    kept_then (g.D.Disk.contents c.args.disk.now) mid new c.args.name (c.in_ok-write_whole.ensures.others told)
    (barred_kept mid new c.args.name (λ other. g.met.D.Disk.seen_may_be_left c.write_whole.new.disk other told) (c.in_ok-barrier.ensures.ok told))
