use Rattle.std.proofs.Common.{◌+◌, length, arith}
use Rattle.pb_devices.proofs.Kept.{stays_kept}
use Rattle.pb_gate_log.proofs.WriteStates.{overwrites_err, overwrites_ok, writing_stays, writing_then}
use Rattle.pb_gate_log.proofs.writes.write_synced.Goals as goal

pub returns-in_err-write_behind-clause-writes : goal.returns-in_err-write_behind-clause-writes
returns-in_err-write_behind-clause-writes g c told =
    let at = c.args.at in
    let bytes = c.args.bytes.now in
    overwrites_err c.from_residual.result c.from_residual.ensures.0 c.args.file.now (g.D.Disk.contents c.args.disk.now) (g.D.Disk.contents c.write_behind.new.disk) at bytes (c.requires told)
    (c.in_err-write_behind.ensures.writing told at (at + length bytes) (omega arith) (omega arith))

pub returns-in_err-sync-clause-writes : goal.returns-in_err-sync-clause-writes
returns-in_err-sync-clause-writes g c told =
    let at = c.args.at in
    let bytes = c.args.bytes.now in
    let file = c.args.file.now in
    let old = g.D.Disk.contents c.args.disk.now in
    let mid = g.D.Disk.contents c.write_behind.new.disk in
    let new = g.D.Disk.contents c.sync.new.self in
    let stays = c.in_err-sync.ensures.err told in
    overwrites_err c.from_residual-in_err-sync.result c.from_residual-in_err-sync.ensures.0 file old new at bytes (c.requires told)
    (writing_then at (at + length bytes) old mid new file (c.in_ok-write_behind.ensures.writing told at (at + length bytes) (omega arith) (omega arith))
    (writing_stays at (at + length bytes) mid new file (stays file) (stays_kept mid new file stays)))

pub returns-clause-writes : goal.returns-clause-writes
returns-clause-writes g c told =
    let at = c.args.at in
    let bytes = c.args.bytes.now in
    let writing = c.in_ok-write_behind.ensures.writing told at (at + length bytes) (omega arith) (omega arith) in
    overwrites_ok _ c.args.file.now (g.D.Disk.contents c.args.disk.now) (g.D.Disk.contents c.write_behind.new.disk) (g.D.Disk.contents c.sync.new.self)
    (c.in_ok-sync.ensures.ok told) writing.earlier writing.others at bytes (c.in_ok-write_behind.ensures.ok told)
