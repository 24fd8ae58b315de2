use Rattle.std.proofs.Common.{ℕ, List, [], subst}
use Rattle.pb_gate_log.specs.Calls.{Makes}
use Rattle.pb_gate_log.specs.EachLog.{EachLog}
use Rattle.pb_gate_log.proofs.CreateStates.{each_made, makes_no_barrier, makes_no_gate, makes_or_stays, makes_whole}
use Rattle.pb_gate_log.proofs.LogStates.{log_at}
use Rattle.pb_gate_log.proofs.gate_log.GateLog.create.Goals as goal

pub returns-in_err-create-clause-makes : goal.returns-in_err-create-clause-makes
returns-in_err-create-clause-makes g c told =
    let old = g.D.Disk.contents c.args.disk.now in
    let new = g.D.Disk.contents c.create.new.self in
    subst (λ (n : List ℕ). Makes n old new) c.as_str-name.ensures.value
    (makes_or_stays c.as_str-name.result.now old new (c.in_err-create.ensures.err told))

pub returns-in_err-write_synced-clause-makes : goal.returns-in_err-write_synced-clause-makes
returns-in_err-write_synced-clause-makes g c told =
    let old = g.D.Disk.contents c.args.disk.now in
    let new = g.D.Disk.contents c.write_synced.new.disk in
    subst (λ (n : List ℕ). Makes n old new) c.as_str-name.ensures.value
    (makes_no_gate c.as_str-name.result.now old (g.D.Disk.contents c.create.new.self) (c.in_ok-create.ensures.ok told) new _ (c.in_err-write_synced.ensures.writes told))

pub returns-in_err-barrier-clause-makes : goal.returns-in_err-barrier-clause-makes
returns-in_err-barrier-clause-makes g c told =
    let old = g.D.Disk.contents c.args.disk.now in
    let new = g.D.Disk.contents c.barrier.new.self in
    subst (λ (n : List ℕ). Makes n old new) c.as_str-name.ensures.value
    (makes_no_barrier c.as_str-name.result.now old (g.D.Disk.contents c.create.new.self) (c.in_ok-create.ensures.ok told) (g.D.Disk.contents c.write_synced.new.disk) _ (c.in_ok-write_synced.ensures.writes told) new (c.in_err-barrier.ensures.err told))

pub returns-clause-ok : goal.returns-clause-ok
returns-clause-ok g c told =
    let old = g.D.Disk.contents c.args.disk.now in
    let new = g.D.Disk.contents c.barrier.new.self in
    subst (λ (n : List ℕ). EachLog (log_at n 0 1) [] new) c.as_str-name.ensures.value
    (each_made c.as_str-name.result.now old (g.D.Disk.contents c.create.new.self) (c.in_ok-create.ensures.ok told) (g.D.Disk.contents c.write_synced.new.disk) _ (c.in_ok-write_synced.ensures.writes told) new (c.in_ok-barrier.ensures.ok told))

pub returns-clause-makes : goal.returns-clause-makes
returns-clause-makes g c told =
    let old = g.D.Disk.contents c.args.disk.now in
    let new = g.D.Disk.contents c.barrier.new.self in
    subst (λ (n : List ℕ). Makes n old new) c.as_str-name.ensures.value
    (makes_whole c.as_str-name.result.now old (g.D.Disk.contents c.create.new.self) (c.in_ok-create.ensures.ok told) (g.D.Disk.contents c.write_synced.new.disk) _ (c.in_ok-write_synced.ensures.writes told) new (c.in_ok-barrier.ensures.ok told)
    (λ other. g.met.D.Disk.seen_may_be_left c.write_synced.new.disk other told))
