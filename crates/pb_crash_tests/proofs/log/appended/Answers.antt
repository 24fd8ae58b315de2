use Rattle.std.proofs.Common.{◌≡◌, ◌<◌, ℕ, List, length, get_or, sym, subst}
use Rattle.pb_devices.specs.Contents.{MayLeave}
use Rattle.pb_crash_tests.proofs.Driving.{none_made, one_failed, all_done}
use Rattle.pb_crash_tests.proofs.log.appended.Goals as goal

pub returns-in_default-clause-left : goal.returns-in_default-clause-left
returns-in_default-clause-left g c told =
    none_made c.args.payloads.now c.args.name (g.D.Disk.contents c.args.disk.now) (g.D.Disk.contents c.create.new.disk) (c.requires told) (c.create.ensures.makes told)

pub returns-in_default-append-clause-left : goal.returns-in_default-append-clause-left
returns-in_default-append-clause-left g c told image left =
    let appending = c.loop-payload.invariant.1 in
    let here = subst (λ (n : List ℕ). MayLeave (g.D.Disk.contents c.append.new.disk) n image) (sym appending.file) left in
    let payloads = c.args.payloads.now in
    let item = c.payload-item.result in
    let within : c.loop-payload.done < length payloads = subst (λ (k : ℕ). k < length payloads) (sym c.loop-payload.invariant.0) c.loop-payload-test.true in
    let is = subst (λ (k : ℕ). item ≡ get_or payloads k item) (sym c.loop-payload.invariant.0) c.payload-item.is in
    one_failed payloads c.loop-payload.done c.as_slice.result.now item image within c.as_slice.ensures is
    ((c.append.ensures.appends told).crash _ image (appending.each told) here)

pub returns-clause-left : goal.returns-clause-left
returns-clause-left g c told image left =
    let appending = c.loop-payload.invariant.1 in
    let disk = g.D.Disk.contents c.loop-payload.disk in
    all_done c.args.payloads.now c.loop-payload.done c.loop-payload.log disk (appending.each told) image
    (subst (λ (n : List ℕ). MayLeave disk n image) (sym appending.file) left)
