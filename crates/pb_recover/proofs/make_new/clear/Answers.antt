use Rattle.std.proofs.Common.{map, string_bytes}
use Rattle.pb_names.specs.NumberedFile.{IsNumberedFile}
use Rattle.pb_recover.proofs.Removing.{removes_listed, removes_nothing, removes_settled, removes_then}
use Rattle.pb_recover.proofs.make_new.clear.Goals as goal

pub returns-in_err-names-clause-removes : goal.returns-in_err-names-clause-removes
returns-in_err-names-clause-removes g c = λ told.
    removes_nothing IsNumberedFile (g.D.Disk.contents c.args.disk.now) (g.D.Disk.contents c.list.new.disk) (c.in_err-names.ensures.stays told)

pub returns-in_err-remove_numbered-clause-removes : goal.returns-in_err-remove_numbered-clause-removes
returns-in_err-remove_numbered-clause-removes g c = λ told.
    removes_listed IsNumberedFile (map string_bytes c.in_ok-names.names.items) (g.D.Disk.contents c.args.disk.now)
    (g.D.Disk.contents c.list.new.disk) (g.D.Disk.contents c.remove_numbered.new.disk) (c.in_ok-names.ensures.stays told)
    (c.in_err-remove_numbered.ensures.removes told)

pub returns-in_err-barrier-clause-removes : goal.returns-in_err-barrier-clause-removes
returns-in_err-barrier-clause-removes g c = λ told.
    let mid = g.D.Disk.contents c.remove_numbered.new.disk in
    let new = g.D.Disk.contents c.barrier.new.self in
    removes_then IsNumberedFile (g.D.Disk.contents c.args.disk.now) mid new
    (removes_listed IsNumberedFile (map string_bytes c.in_ok-names.names.items) (g.D.Disk.contents c.args.disk.now)
    (g.D.Disk.contents c.list.new.disk) mid (c.in_ok-names.ensures.stays told) (c.in_ok-remove_numbered.ensures.removes told))
    (removes_nothing IsNumberedFile mid new (c.in_err-barrier.ensures.err told))

pub returns-clause-calm : goal.returns-clause-calm
returns-clause-calm g c = λ told. (c.in_ok-barrier.ensures.ok told).settled

pub returns-clause-removes : goal.returns-clause-removes
returns-clause-removes g c = λ told.
    let mid = g.D.Disk.contents c.remove_numbered.new.disk in
    removes_settled IsNumberedFile (g.D.Disk.contents c.args.disk.now) mid (g.D.Disk.contents c.barrier.new.self)
    (λ name. g.met.D.Disk.seen_may_be_left c.remove_numbered.new.disk name told)
    (removes_listed IsNumberedFile (map string_bytes c.in_ok-names.names.items) (g.D.Disk.contents c.args.disk.now)
    (g.D.Disk.contents c.list.new.disk) mid (c.in_ok-names.ensures.stays told) (c.in_ok-remove_numbered.ensures.removes told))
    (c.in_ok-barrier.ensures.ok told)
