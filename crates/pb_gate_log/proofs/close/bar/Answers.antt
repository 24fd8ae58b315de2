use Rattle.std.proofs.Common.{◌<◌, ◌≤◌, ◌+◌, ℕ, List, [], ◌∷◌, length, refl, arith}
use Rattle.pb_devices.specs.DiskCalls.{over}
use Rattle.pb_devices.proofs.Options.{of_some}
use Rattle.pb_devices.proofs.Over.{length-over}
use Rattle.pb_gate_log.proofs.LogLemmas.{EndsAt-payloads, barred_empty, barred_open, barred_over, ends_log, log_front, log_payloads, torn_behind}
use Rattle.pb_gate_log.proofs.TornLemmas.{before-over}
use Rattle.pb_gate_log.proofs.LogStates.{durable_has, torn_or_earlier, four_ones}
use Rattle.pb_gate_log.proofs.close.bar.Goals as goal
use Rattle.pb_gate_log.proofs.close.bar.Goals.{then-at-bytes-via-then-at-bytes, then-at-bytes-via-else-at-bytes+then-bytes-at-eq1}

pub returns-then-at-bytes-clause-crash : goal.returns-then-at-bytes-clause-crash
returns-then-at-bytes-clause-crash g c told list image ends left =
    durable_has c.args.bytes.now list (g.D.Disk.contents c.args.disk.now) (g.D.Disk.contents c.args.disk.now) c.args.file.now image (λ other is. is) (c.requires.durable told) (EndsAt-payloads c.args.gate list c.args.bytes.now ends) left

pub returns-then-at-bytes-clause-ok : goal.returns-then-at-bytes-clause-ok
returns-then-at-bytes-clause-ok g c told list ends = record {
  bytes = c.args.bytes.now;
  durable = c.requires.durable told;
  sized = refl;
  ends = elim c.then-at-bytes.branch [
    | then-at-bytes-via-then-at-bytes w ↦ barred_empty c.args.gate list c.args.bytes.now ends (omega arith)
    | then-at-bytes-via-else-at-bytes+then-bytes-at-eq1 w ↦ barred_open c.args.gate list c.args.bytes.now ends (omega (arith, c.requires.within)) w.if-bytes-at-eq1.true
  ];
}

pub returns-in_err-write_synced-clause-crash : goal.returns-in_err-write_synced-clause-crash
returns-in_err-write_synced-clause-crash g c told list image ends left =
    let there : c.args.gate < length c.args.bytes.now = omega (arith, c.requires.within) in
    let log = ends_log c.args.gate list c.args.bytes.now ends there c.if-bytes-at-eq1.false in
    torn_or_earlier (c.args.gate + 1) (c.args.gate + 1 + 4) c.args.bytes.now list (g.D.Disk.contents c.args.disk.now) ((g.D.Disk.contents c.args.disk.now).earlier c.args.file.now) c.args.file.now image (λ other is. is)
    (λ bytes torn. torn_behind c.args.gate (c.args.gate + 1 + 4) list c.args.bytes.now bytes log torn)
    ((c.in_err-write_synced.ensures.writes told).crash c.args.bytes.now image (c.requires.durable told) left)

pub returns-clause-ok : goal.returns-clause-ok
returns-clause-ok g c told list ends =
    let there : c.args.gate < length c.args.bytes.now = omega (arith, c.requires.within) in
    let log = ends_log c.args.gate list c.args.bytes.now ends there c.if-bytes-at-eq1.false in
    record {
      bytes = over c.args.bytes.now (c.args.gate + 1) (255 ∷ 255 ∷ 255 ∷ 255 ∷ []);
      durable = (c.in_ok-write_synced.ensures.writes told).ok c.args.bytes.now (c.requires.durable told);
      sized = omega (arith, length-over c.args.bytes.now (c.args.gate + 1) (255 ∷ 255 ∷ 255 ∷ 255 ∷ []) (omega arith));
      ends = barred_over c.args.gate list (255 ∷ 255 ∷ 255 ∷ 255 ∷ []) c.args.bytes.now log refl four_ones;
    }

pub returns-clause-crash : goal.returns-clause-crash
returns-clause-crash g c told list image ends left =
    let there : c.args.gate < length c.args.bytes.now = omega (arith, c.requires.within) in
    let log = ends_log c.args.gate list c.args.bytes.now ends there c.if-bytes-at-eq1.false in
    let bar : List ℕ = 255 ∷ 255 ∷ 255 ∷ 255 ∷ [] in
    let file = over c.args.bytes.now (c.args.gate + 1) bar in
    durable_has file list (g.D.Disk.contents c.args.disk.now) (g.D.Disk.contents c.write_synced.new.disk) c.args.file.now image ((c.in_ok-write_synced.ensures.writes told).earlier)
    ((c.in_ok-write_synced.ensures.writes told).ok c.args.bytes.now (c.requires.durable told))
    (log_payloads c.args.gate list file (log_front c.args.gate list c.args.bytes.now file log (before-over c.args.bytes.now (c.args.gate + 1) bar (omega arith)))) left

pub returns-clause-place : goal.returns-clause-place
returns-clause-place g c told =
    let bar : List ℕ = 255 ∷ 255 ∷ 255 ∷ 255 ∷ [] in
    let there : c.args.gate < length c.args.bytes.now = omega (arith, c.requires.within) in
    let wrote = (c.in_ok-write_synced.ensures.writes told).ok c.args.bytes.now (c.requires.durable told) in
    of_some ((g.D.Disk.contents c.write_synced.new.disk).seen c.args.file.now) (λ bytes. c.args.gate ≤ length bytes) (over c.args.bytes.now (c.args.gate + 1) bar) wrote.seen
    (omega (arith, length-over c.args.bytes.now (c.args.gate + 1) bar (omega arith)))

pub returns-clause-others : goal.returns-clause-others
returns-clause-others g c told = (c.in_ok-write_synced.ensures.writes told).others

pub returns-clause-earlier : goal.returns-clause-earlier
returns-clause-earlier g c told = (c.in_ok-write_synced.ensures.writes told).earlier
