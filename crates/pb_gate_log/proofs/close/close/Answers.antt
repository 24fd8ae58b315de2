use Rattle.std.proofs.Common.{◌+◌, [], ◌∷◌, arith}
use Rattle.pb_devices.specs.DiskCalls.{over}
use Rattle.pb_devices.proofs.Over.{length-over}
use Rattle.pb_gate_log.proofs.LogLemmas.{EndsAt-payloads, ends_log, log_payloads, shut_log, torn_shut}
use Rattle.pb_gate_log.proofs.LogStates.{durable_has, torn_or_earlier}
use Rattle.pb_gate_log.proofs.close.close.Goals as goal

pub returns-then-bytes-at-eq0-clause-ok : goal.returns-then-bytes-at-eq0-clause-ok
returns-then-bytes-at-eq0-clause-ok g c told list ends = record {
  bytes = c.args.bytes.now;
  durable = c.requires.durable told;
  log = ends_log c.args.gate list c.args.bytes.now ends (omega arith) (λ is. omega (arith, c.if-bytes-at-eq0.true, is));
  sized = omega arith;
}

pub returns-then-bytes-at-eq0-clause-crash : goal.returns-then-bytes-at-eq0-clause-crash
returns-then-bytes-at-eq0-clause-crash g c told list image ends left =
    durable_has c.args.bytes.now list (g.D.Disk.contents c.args.disk.now) (g.D.Disk.contents c.args.disk.now) c.args.file.now image (λ other is. is) (c.requires.durable told) (EndsAt-payloads c.args.gate list c.args.bytes.now ends) left

pub returns-in_err-write_synced-clause-crash : goal.returns-in_err-write_synced-clause-crash
returns-in_err-write_synced-clause-crash g c told list image ends left =
    let ready = c.in_ok-len.ensures.ok told list ends in
    torn_or_earlier c.args.gate (c.args.gate + 1) ready.bytes list (g.D.Disk.contents c.args.disk.now) ((g.D.Disk.contents c.bar.new.disk).earlier c.args.file.now) c.args.file.now image (c.in_ok-len.ensures.earlier told)
    (λ bytes torn. torn_shut c.args.gate list ready.bytes bytes ready.ends torn)
    ((c.in_err-write_synced.ensures.writes told).crash ready.bytes image ready.durable left)

pub returns-clause-ok : goal.returns-clause-ok
returns-clause-ok g c told list ends =
    let ready = c.in_ok-len.ensures.ok told list ends in
    record {
      bytes = over ready.bytes c.args.gate (0 ∷ []);
      durable = (c.in_ok-write_synced.ensures.writes told).ok ready.bytes ready.durable;
      log = shut_log c.args.gate list ready.bytes ready.ends;
      sized = omega (arith, length-over ready.bytes c.args.gate (0 ∷ []) ready.ends.front.within, ready.sized);
    }

pub returns-clause-crash : goal.returns-clause-crash
returns-clause-crash g c told list image ends left =
    let ready = c.in_ok-len.ensures.ok told list ends in
    let file = over ready.bytes c.args.gate (0 ∷ []) in
    durable_has file list (g.D.Disk.contents c.args.disk.now) (g.D.Disk.contents c.write_synced.new.disk) c.args.file.now image
    (λ other is. c.in_ok-len.ensures.earlier told other ((c.in_ok-write_synced.ensures.writes told).earlier other is))
    ((c.in_ok-write_synced.ensures.writes told).ok ready.bytes ready.durable)
    (log_payloads c.args.gate list file (shut_log c.args.gate list ready.bytes ready.ends)) left
