use Rattle.pb_store.specs.Devices.{devices_of}
use Rattle.pb_store.proofs.Opening.{moves_opened, moves_refused}
use Rattle.pb_store.proofs.laws.opening_moves.Goals as goal

pub returns-clause-opened : goal.returns-clause-opened
returns-clause-opened g c = λ told id store is kept starts reopens same.
    moves_opened id store
    (devices_of (g.D.Disk.contents c.args.old_disk.now) (g.B.Bucket.objects c.args.old_bucket.now) (g.D.Disk.fault_count c.args.old_disk.now)
    (g.B.Bucket.fault_count c.args.old_bucket.now) (g.B.Bucket.call_count c.args.old_bucket.now))
    (devices_of (g.D.Disk.contents c.args.new_disk.now) (g.B.Bucket.objects c.args.new_bucket.now) (g.D.Disk.fault_count c.args.new_disk.now)
    (g.B.Bucket.fault_count c.args.new_bucket.now) (g.B.Bucket.call_count c.args.new_bucket.now))
    (λ name. g.met.D.Disk.seen_may_be_left c.args.old_disk.now name told) is kept starts reopens same

pub returns-clause-refused : goal.returns-clause-refused
returns-clause-refused g c = λ id reopens same.
    moves_refused id
    (devices_of (g.D.Disk.contents c.args.old_disk.now) (g.B.Bucket.objects c.args.old_bucket.now) (g.D.Disk.fault_count c.args.old_disk.now)
    (g.B.Bucket.fault_count c.args.old_bucket.now) (g.B.Bucket.call_count c.args.old_bucket.now))
    (devices_of (g.D.Disk.contents c.args.new_disk.now) (g.B.Bucket.objects c.args.new_bucket.now) (g.D.Disk.fault_count c.args.new_disk.now)
    (g.B.Bucket.fault_count c.args.new_bucket.now) (g.B.Bucket.call_count c.args.new_bucket.now))
    reopens same
