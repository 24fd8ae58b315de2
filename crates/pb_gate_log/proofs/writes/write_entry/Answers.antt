use Rattle.std.proofs.Common.{◌≡◌, ◌+◌, length, refl, ap, ◌∙◌, arith}
use Rattle.pb_bytes.proofs.BigEndianLemmas.{length-be32}
use Rattle.pb_devices.proofs.Kept.{stays_kept}
use Rattle.pb_gate_log.proofs.PendingLemmas.{over_within}
use Rattle.pb_gate_log.proofs.WriteStates.{stages_err, stages_ok, writing_stays, writing_then}
use Rattle.pb_gate_log.proofs.writes.write_entry.Goals as goal

pub write_behind-requires-2 : goal.write_behind-requires-2
write_behind-requires-2 g c told =
    let four : length c.be32.result ≡ 4 = ap length c.be32.ensures ∙ length-be32 _ in
    over_within (g.D.Disk.contents c.args.disk.now) (g.D.Disk.contents c.write_behind.new.disk) c.args.file.now (c.args.gate + 1) (c.args.gate + 5) c.be32.result
    (c.requires.place told) (c.in_ok-write_behind.ensures.ok told) (omega arith)

pub write_behind-requires-3 : goal.write_behind-requires-3
write_behind-requires-3 g c told =
    let four : length c.be32.result ≡ 4 = ap length c.be32.ensures ∙ length-be32 _ in
    over_within (g.D.Disk.contents c.write_behind.new.disk) (g.D.Disk.contents c.write_behind-2.new.disk) c.args.file.now (c.args.gate + 5) (c.args.gate + 5 + length c.args.payload.now) c.args.payload.now
    (over_within (g.D.Disk.contents c.args.disk.now) (g.D.Disk.contents c.write_behind.new.disk) c.args.file.now (c.args.gate + 1) (c.args.gate + 5) c.be32.result
    (c.requires.place told) (c.in_ok-write_behind.ensures.ok told) (omega arith))
    (c.in_ok-write_behind-2.ensures.ok told) refl

pub returns-in_err-write_behind-clause-stages : goal.returns-in_err-write_behind-clause-stages
returns-in_err-write_behind-clause-stages g c told =
    let four : length c.be32.result ≡ 4 = ap length c.be32.ensures ∙ length-be32 _ in
    let from = c.args.gate + 1 in
    let to = c.args.gate + 6 + length c.args.payload.now in
    stages_err c.from_residual.result c.from_residual.ensures.0 c.args.file.now (g.D.Disk.contents c.args.disk.now) (g.D.Disk.contents c.write_behind.new.disk) c.args.gate c.args.payload.now (c.requires.place told)
    (c.in_err-write_behind.ensures.writing told from to (omega arith) (omega arith))

pub returns-in_err-write_behind-2-clause-stages : goal.returns-in_err-write_behind-2-clause-stages
returns-in_err-write_behind-2-clause-stages g c told =
    let four : length c.be32.result ≡ 4 = ap length c.be32.ensures ∙ length-be32 _ in
    let from = c.args.gate + 1 in
    let to = c.args.gate + 6 + length c.args.payload.now in
    stages_err c.from_residual-in_err-write_behind-2.result c.from_residual-in_err-write_behind-2.ensures.0 c.args.file.now (g.D.Disk.contents c.args.disk.now) (g.D.Disk.contents c.write_behind-2.new.disk) c.args.gate c.args.payload.now (c.requires.place told)
    (writing_then from to _ (g.D.Disk.contents c.write_behind.new.disk) _ _ (c.in_ok-write_behind.ensures.writing told from to (omega arith) (omega arith))
    (c.in_err-write_behind-2.ensures.writing told from to (omega arith) (omega arith)))

pub returns-in_err-write_behind-3-clause-stages : goal.returns-in_err-write_behind-3-clause-stages
returns-in_err-write_behind-3-clause-stages g c told =
    let four : length c.be32.result ≡ 4 = ap length c.be32.ensures ∙ length-be32 _ in
    let from = c.args.gate + 1 in
    let to = c.args.gate + 6 + length c.args.payload.now in
    stages_err c.from_residual-in_err-write_behind-3.result c.from_residual-in_err-write_behind-3.ensures.0 c.args.file.now (g.D.Disk.contents c.args.disk.now) (g.D.Disk.contents c.write_behind-3.new.disk) c.args.gate c.args.payload.now (c.requires.place told)
    (writing_then from to _ (g.D.Disk.contents c.write_behind-2.new.disk) _ _
    (writing_then from to _ (g.D.Disk.contents c.write_behind.new.disk) _ _ (c.in_ok-write_behind.ensures.writing told from to (omega arith) (omega arith))
    (c.in_ok-write_behind-2.ensures.writing told from to (omega arith) (omega arith)))
    (c.in_err-write_behind-3.ensures.writing told from to (omega arith) (omega arith)))

pub returns-in_err-sync-clause-stages : goal.returns-in_err-sync-clause-stages
returns-in_err-sync-clause-stages g c told =
    let four : length c.be32.result ≡ 4 = ap length c.be32.ensures ∙ length-be32 _ in
    let file = c.args.file.now in
    let from = c.args.gate + 1 in
    let to = c.args.gate + 6 + length c.args.payload.now in
    let wrote = g.D.Disk.contents c.write_behind-3.new.disk in
    let new = g.D.Disk.contents c.sync.new.self in
    let stays = c.in_err-sync.ensures.err told in
    stages_err c.from_residual-in_err-sync.result c.from_residual-in_err-sync.ensures.0 file (g.D.Disk.contents c.args.disk.now) new c.args.gate c.args.payload.now (c.requires.place told)
    (writing_then from to _ wrote _ _
    (writing_then from to _ (g.D.Disk.contents c.write_behind-2.new.disk) _ _
    (writing_then from to _ (g.D.Disk.contents c.write_behind.new.disk) _ _ (c.in_ok-write_behind.ensures.writing told from to (omega arith) (omega arith))
    (c.in_ok-write_behind-2.ensures.writing told from to (omega arith) (omega arith)))
    (c.in_ok-write_behind-3.ensures.writing told from to (omega arith) (omega arith)))
    (writing_stays from to wrote new file (stays file) (stays_kept wrote new file stays)))

pub returns-clause-stages : goal.returns-clause-stages
returns-clause-stages g c told =
    let four : length c.be32.result ≡ 4 = ap length c.be32.ensures ∙ length-be32 _ in
    let from = c.args.gate + 1 in
    let to = c.args.gate + 6 + length c.args.payload.now in
    let writing = writing_then from to (g.D.Disk.contents c.args.disk.now) (g.D.Disk.contents c.write_behind-2.new.disk) (g.D.Disk.contents c.write_behind-3.new.disk) c.args.file.now
    (writing_then from to _ (g.D.Disk.contents c.write_behind.new.disk) _ _ (c.in_ok-write_behind.ensures.writing told from to (omega arith) (omega arith))
    (c.in_ok-write_behind-2.ensures.writing told from to (omega arith) (omega arith)))
    (c.in_ok-write_behind-3.ensures.writing told from to (omega arith) (omega arith)) in
    stages_ok _ c.args.file.now (g.D.Disk.contents c.args.disk.now) (g.D.Disk.contents c.write_behind-3.new.disk) (g.D.Disk.contents c.sync.new.self)
    (c.in_ok-sync.ensures.ok told) writing.earlier writing.others c.args.gate c.be32.result c.args.payload.now (g.D.Disk.contents c.write_behind.new.disk) (g.D.Disk.contents c.write_behind-2.new.disk)
    (c.requires.place told) c.be32.ensures four (c.in_ok-write_behind.ensures.ok told) (c.in_ok-write_behind-2.ensures.ok told) (c.in_ok-write_behind-3.ensures.ok told)
