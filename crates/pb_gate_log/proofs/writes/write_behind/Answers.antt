use Rattle.std.proofs.Common.{refl}
use Rattle.pb_devices.proofs.Kept.{kept_same, written_kept}
use Rattle.pb_gate_log.proofs.PendingLemmas.{over_pending, scribbled_pending}
use Rattle.pb_gate_log.proofs.writes.write_behind.Goals as goal

pub returns-then-is_empty-clause-writing : goal.returns-then-is_empty-clause-writing
returns-then-is_empty-clause-writing g c told from to lo hi = record {
  pending = λ start is. is;
  earlier = λ image is. is;
  others = kept_same (g.D.Disk.contents c.args.disk.now) c.args.file.now;
}

pub returns-in_err-write_at-clause-writing : goal.returns-in_err-write_at-clause-writing
returns-in_err-write_at-clause-writing g c told from to lo hi =
    let written = c.in_err-write_at.ensures.written told in
    record {
      pending = λ start is. scribbled_pending start from to _ _ _ _ _ is written (c.in_err-write_at.ensures.err told) lo hi;
      earlier = written.earlier;
      others = written_kept _ _ _ _ _ written;
    }

pub returns-clause-writing : goal.returns-clause-writing
returns-clause-writing g c told from to lo hi =
    let written = c.in_ok-write_at.ensures.written told in
    record {
      pending = λ start is. over_pending start from to _ _ _ _ _ c.args.bytes.now refl (c.requires told) is written (c.in_ok-write_at.ensures.ok told) lo hi;
      earlier = written.earlier;
      others = written_kept _ _ _ _ _ written;
    }
