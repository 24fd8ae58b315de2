use Rattle.std.proofs.Common.{◌≡◌, ◌≤◌, ◌<◌, ◌++◌, length, take, drop, vec_len, sym, ap, ◌∙◌, subst, arith, length-take}
use Rattle.pb_devices.specs.DiskCalls.{Stays}
use Rattle.pb_devices.proofs.Kept.{stays_then}
use Rattle.pb_gate_log.proofs.ReadLemmas.{reading_on, read_all, no_end, seen_still}
use Rattle.pb_gate_log.proofs.reads.read_whole.Goals as goal
use Rattle.pb_gate_log.proofs.reads.read_whole.Goals.{else-loop-piece-test, then-loop-piece-test+in_ok-read_piece+then-len-before}

pub returns-in_err-read_piece-clause-kept : goal.returns-in_err-read_piece-clause-kept
returns-in_err-read_piece-clause-kept g c told = stays_then _ _ _ (c.loop-piece.invariant.stays told) (c.in_err-read_piece.ensures.kept told)

pub loop-piece-preserved : goal.loop-piece-preserved
loop-piece-preserved g c =
    let read = c.loop-piece.bytes.items in
    let want = length (take c.min-want.result c.loop-piece.piece) in
    let sized : vec_len c.loop-piece.bytes ≡ length read = omega (arith, c.loop-piece.bytes.ok.0) in
    reading_on g.D.Disk.told (g.D.Disk.contents c.args.disk.now) (g.D.Disk.contents c.loop-piece.disk) (g.D.Disk.contents c.read_piece.new.disk)
    (g.D.Disk.fault_count c.args.disk.now) (g.D.Disk.fault_count c.loop-piece.disk) (g.D.Disk.fault_count c.read_piece.new.disk)
    c.args.file.now c.in_ok-len.len read c.read_piece.new.bytes.items want c.loop-piece.invariant
    c.in_ok-read_piece.ensures.kept (c.in_ok-read_piece.ensures.cause.calm tt)
    (λ told all is. c.in_ok-read_piece.ensures.bytes told all is ∙ ap (λ n. read ++ take want (drop n all)) sized)
    (omega (arith, length-take c.min-want.result c.loop-piece.piece, c.min-want.ensures, c.len-before.ensures, sized))

pub returns-clause-bytes : goal.returns-clause-bytes
returns-clause-bytes g c told bytes is =
    let read = c.loop-piece.bytes.items in
    let sized : vec_len c.loop-piece.bytes ≡ length read = omega (arith, c.loop-piece.bytes.ok.0) in
    elim c.loop-piece-test.branch [
      | else-loop-piece-test w ↦
          let enough : c.in_ok-len.len ≤ length read = omega (arith, c.len.ensures, sized) in
          ap (λ v. v.items) w.bytes-is
          ∙ read_all g.D.Disk.told (g.D.Disk.contents c.args.disk.now) (g.D.Disk.contents c.loop-piece.disk) (g.D.Disk.fault_count c.args.disk.now) (g.D.Disk.fault_count c.loop-piece.disk)
          c.args.file.now c.in_ok-len.len read bytes c.loop-piece.invariant enough told is
      | then-loop-piece-test+in_ok-read_piece+then-len-before w ↦
          let want = length (take w.min-want.result c.loop-piece.piece) in
          let here = seen_still g.D.Disk.told (g.D.Disk.contents c.args.disk.now) (g.D.Disk.contents c.loop-piece.disk) (g.D.Disk.fault_count c.args.disk.now) (g.D.Disk.fault_count c.loop-piece.disk)
          c.args.file.now c.in_ok-len.len read bytes c.loop-piece.invariant told is in
          let piece : w.read_piece.new.bytes.items ≡ read ++ take want (drop (length read) bytes) =
          w.in_ok-read_piece.ensures.bytes told bytes here ∙ ap (λ n. read ++ take want (drop n bytes)) sized in
          let whole = c.loop-piece.invariant.sized told bytes is in
          let buffer : length c.loop-piece.piece ≡ c.min.result = omega (arith, c.loop-piece.auto.piece, c.as_mut_slice-piece.ensures.len, c.in-Ok.ensures.len) in
          let some : 0 < want = omega (arith, length-take w.min-want.result c.loop-piece.piece, w.min-want.ensures, w.len-before.ensures, c.len.ensures, c.min.ensures, buffer, sized) in
          let more = no_end bytes read w.read_piece.new.bytes.items want piece (omega (arith, c.len.ensures, sized, whole)) some in
          absurd (omega (arith, more, w.read_piece.new.bytes.ok.0, w.len-in-loop-piece.ensures, w.len-before.ensures, sized))
    ]

pub returns-clause-kept : goal.returns-clause-kept
returns-clause-kept g c told =
    elim c.loop-piece-test.branch [
      | else-loop-piece-test w ↦
          subst (λ (d : _). Stays (g.D.Disk.contents c.args.disk.now) (g.D.Disk.contents d)) (sym w.disk-is) (c.loop-piece.invariant.stays told)
      | then-loop-piece-test+in_ok-read_piece+then-len-before w ↦
          subst (λ (d : _). Stays (g.D.Disk.contents c.args.disk.now) (g.D.Disk.contents d)) (sym w.disk-is)
          (stays_then (g.D.Disk.contents c.args.disk.now) (g.D.Disk.contents c.loop-piece.disk) (g.D.Disk.contents w.read_piece.new.disk) (c.loop-piece.invariant.stays told) (w.in_ok-read_piece.ensures.kept told))
    ]
