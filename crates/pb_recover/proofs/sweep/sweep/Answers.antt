use Rattle.std.proofs.Common.{List, map, string_bytes, subst}
use Rattle.pb_recover.specs.Calls.{IsUnnamed}
use Rattle.pb_recover.proofs.Removing.{AreGoneOf, listed_gone, removes_listed, removes_nothing, removes_settled, removes_then, settled_gone, stays_calm}
use Rattle.pb_recover.proofs.sweep.sweep.Goals as goal

pub returns-in_err-names-clause-removes : goal.returns-in_err-names-clause-removes
returns-in_err-names-clause-removes g c = λ told.
    removes_nothing (IsUnnamed c.args.manifest c.args.catalogue c.args.version.now) (g.D.Disk.contents c.args.disk.now)
    (g.D.Disk.contents c.list.new.disk) (c.in_err-names.ensures.stays told)

pub returns-in_err-remove_unnamed-clause-removes : goal.returns-in_err-remove_unnamed-clause-removes
returns-in_err-remove_unnamed-clause-removes g c = λ told.
    removes_listed (IsUnnamed c.args.manifest c.args.catalogue c.args.version.now) (map string_bytes c.in_ok-names.names.items)
    (g.D.Disk.contents c.args.disk.now) (g.D.Disk.contents c.list.new.disk) (g.D.Disk.contents c.remove_unnamed.new.disk)
    (c.in_ok-names.ensures.stays told) (c.in_err-remove_unnamed.ensures.removes told)

pub returns-then-not-branch-clause-gone : goal.returns-then-not-branch-clause-gone
returns-then-not-branch-clause-gone g c = λ told.
    let IsGone = IsUnnamed c.args.manifest c.args.catalogue c.args.version.now in
    let new = g.D.Disk.contents c.remove_unnamed.new.disk in
    listed_gone IsGone (map string_bytes c.in_ok-names.names.items) (g.D.Disk.contents c.args.disk.now) (g.D.Disk.contents c.list.new.disk) new
    (c.in_ok-names.ensures.stays told) (c.in_ok-remove_unnamed.ensures.removes told) (c.in_ok-names.ensures.ok told)
    (subst (λ (names : List _). AreGoneOf IsGone (map string_bytes names) new) c.as_slice.ensures.value
    (c.in_ok-remove_unnamed.ensures.gone told))

pub returns-then-not-branch-clause-calm : goal.returns-then-not-branch-clause-calm
returns-then-not-branch-clause-calm g c = λ told.
    let listed = g.D.Disk.contents c.list.new.disk in
    stays_calm listed (g.D.Disk.contents c.remove_unnamed.new.disk) (c.in_ok-remove_unnamed.ensures.none told c.if-not-branch.true)
    (stays_calm (g.D.Disk.contents c.args.disk.now) listed (c.in_ok-names.ensures.stays told) (c.requires told))

pub returns-then-not-branch-clause-removes : goal.returns-then-not-branch-clause-removes
returns-then-not-branch-clause-removes g c = λ told.
    removes_listed (IsUnnamed c.args.manifest c.args.catalogue c.args.version.now) (map string_bytes c.in_ok-names.names.items)
    (g.D.Disk.contents c.args.disk.now) (g.D.Disk.contents c.list.new.disk) (g.D.Disk.contents c.remove_unnamed.new.disk)
    (c.in_ok-names.ensures.stays told) (c.in_ok-remove_unnamed.ensures.removes told)

pub returns-in_err-barrier-clause-removes : goal.returns-in_err-barrier-clause-removes
returns-in_err-barrier-clause-removes g c = λ told.
    let IsGone = IsUnnamed c.args.manifest c.args.catalogue c.args.version.now in
    let mid = g.D.Disk.contents c.remove_unnamed.new.disk in
    let new = g.D.Disk.contents c.barrier.new.self in
    removes_then IsGone (g.D.Disk.contents c.args.disk.now) mid new
    (removes_listed IsGone (map string_bytes c.in_ok-names.names.items) (g.D.Disk.contents c.args.disk.now)
    (g.D.Disk.contents c.list.new.disk) mid (c.in_ok-names.ensures.stays told) (c.in_ok-remove_unnamed.ensures.removes told))
    (removes_nothing IsGone mid new (c.in_err-barrier.ensures.err told))

pub returns-clause-gone : goal.returns-clause-gone
returns-clause-gone g c = λ told.
    let IsGone = IsUnnamed c.args.manifest c.args.catalogue c.args.version.now in
    let mid = g.D.Disk.contents c.remove_unnamed.new.disk in
    settled_gone IsGone mid (g.D.Disk.contents c.barrier.new.self) (c.in_ok-barrier.ensures.ok told)
    (listed_gone IsGone (map string_bytes c.in_ok-names.names.items) (g.D.Disk.contents c.args.disk.now)
    (g.D.Disk.contents c.list.new.disk) mid (c.in_ok-names.ensures.stays told) (c.in_ok-remove_unnamed.ensures.removes told)
    (c.in_ok-names.ensures.ok told)
    (subst (λ (names : List _). AreGoneOf IsGone (map string_bytes names) mid) c.as_slice.ensures.value
    (c.in_ok-remove_unnamed.ensures.gone told)))

pub returns-clause-calm : goal.returns-clause-calm
returns-clause-calm g c = λ told. (c.in_ok-barrier.ensures.ok told).settled

pub returns-clause-removes : goal.returns-clause-removes
returns-clause-removes g c = λ told.
    let IsGone = IsUnnamed c.args.manifest c.args.catalogue c.args.version.now in
    let mid = g.D.Disk.contents c.remove_unnamed.new.disk in
    removes_settled IsGone (g.D.Disk.contents c.args.disk.now) mid (g.D.Disk.contents c.barrier.new.self)
    (λ name. g.met.D.Disk.seen_may_be_left c.remove_unnamed.new.disk name told)
    (removes_listed IsGone (map string_bytes c.in_ok-names.names.items) (g.D.Disk.contents c.args.disk.now)
    (g.D.Disk.contents c.list.new.disk) mid (c.in_ok-names.ensures.stays told) (c.in_ok-remove_unnamed.ensures.removes told))
    (c.in_ok-barrier.ensures.ok told)
