use Rattle.pb_store.specs.Devices.{devices_of}
use Rattle.pb_store.proofs.Moves.{moves_locally}
use Rattle.pb_store.proofs.laws.local_moves.Goals as goal

pub returns : goal.returns
returns g c = λ old new a call reading here.
    moves_locally old new a
    (devices_of (g.D.Disk.contents c.args.old_disk.now) (g.B.Bucket.objects c.args.old_bucket.now) (g.D.Disk.fault_count c.args.old_disk.now)
    (g.B.Bucket.fault_count c.args.old_bucket.now) (g.B.Bucket.call_count c.args.old_bucket.now))
    (devices_of (g.D.Disk.contents c.args.new_disk.now) (g.B.Bucket.objects c.args.new_bucket.now) (g.D.Disk.fault_count c.args.new_disk.now)
    (g.B.Bucket.fault_count c.args.new_bucket.now) (g.B.Bucket.call_count c.args.new_bucket.now))
    call reading here
