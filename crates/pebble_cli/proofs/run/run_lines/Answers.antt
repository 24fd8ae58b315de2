use Rattle.std.proofs.Common.{◌≡◌, ◌∷◌, ◌++◌, ◌∙◌, List, [], inl, inr, refl, sym, ap, subst, append_assoc, append-nil, length, drop, ◌+◌, arith}
use Rattle.std.proofs.lemmas.Grind.{common_steps}
use Rattle.pb_reply.specs.Statuses.{IsRunStatus}
use Rattle.pb_reply.specs.declared.status.Status.{Status}
use Rattle.pb_script.specs.declared.line.Line.{Line}
use Rattle.pebble_cli.proofs.Counting.{rose_later, rose_from}
use Rattle.pebble_cli.specs.Folder.{log_name}
use Rattle.pb_reply.specs.Printed.{printed}
use Rattle.pebble_cli.specs.Runs.{TakesPart, has_damage, status_of}
use Rattle.pebble_cli.specs.Steps.{as_line}
use Rattle.pebble_cli.specs.StoreStates.{has_fallen, map_in, ran_of}
use Rattle.pebble_cli.specs.declared.store.Store.TheVariants.{Closed}
use Rattle.pb_reply.specs.declared.status.Status.TheVariants.{Memory}
use Rattle.pebble_cli.proofs.StatusFacts.{is_run_status}
use Rattle.pebble_cli.proofs.Moves.{Words}
use Rattle.pebble_cli.proofs.StepFacts.{next_line}
use Rattle.pebble_cli.proofs.Crash.{Safe, safe_start, safe_step, safe_headline, nothing_ran}
use Rattle.pebble_cli.proofs.Damage.{from_start, from_step, spoilt_step, no_damage_yet}
use Rattle.pebble_cli.proofs.FaultLines.{line_built, none_left}
use Rattle.pebble_cli.proofs.Progress.{texts, texts_ran, going_start, going_step, past_of, step_words, part_step, no_part, whole_part, stops_at_last, cut_ends, cut_prints, all_ends, all_prints, all_causes, ranked, IsOfLines}
use Rattle.pebble_cli.proofs.run.run_lines.Goals as goal

pub new-requires : goal.new-requires
new-requires g c = line_built c.args.lines.now c.loop-line.line-index c.line-item.result c.requires.built c.loop-line-test.true c.line-item.is

pub loop-line-init : goal.loop-line-init
loop-line-init g c =
    let lines = c.args.lines.now in
    let none = c.reserve.ensures.marks ∙ c.requires.empty in
    let entry = g.D.Disk.contents c.args.disk.now in (
      going_start lines c.reserve.new.self.marks none,
      record {
        room = grind (arith, common_steps);
        taken = λ told. sym (append-nil (g.O.Sink.taken c.args.out.now));
        status = ap status_of (sym none);
        later = omega arith;
        kept = λ told. tt;
        safe = λ told good. safe_start entry lines (λ name. g.met.D.Disk.seen_may_be_left c.args.disk.now name told) good;
        from = λ told. from_start entry;
        spoilt = λ told damage. absurd (no_damage_yet c.reserve.new.self.marks none damage);
        disk_later = omega arith;
        device = λ is. cc;
      },
    )

pub loop-line-preserved : goal.loop-line-preserved
loop-line-preserved g c =
    let going = c.loop-line.invariant.0 in
    let kept = c.loop-line.invariant.1 in
    let reply = c.run_step-reply.result in
    let e = c.run_step-reply.ensures in
    let lines = c.args.lines.now in
    let left = drop c.loop-line.line-index lines in
    let rest = drop (c.loop-line.line-index + 1) lines in
    let before = c.loop-line.store in
    let after = c.run_step-reply.new.store in
    let step = c.in-Ok.step in
    let next : left ≡ as_line step ∷ rest = next_line lines c.loop-line.line-index c.line-item.result step c.loop-line-test.true c.line-item.is c.in-Ok.ensures in
    let words : Words step = step_words lines c.loop-line.line-index c.line-item.result step c.requires.built c.loop-line-test.true c.line-item.is c.in-Ok.ensures in
    let entry = g.D.Disk.contents c.args.disk.now in
    let old = g.D.Disk.contents c.loop-line.disk in
    let taken = g.O.Sink.taken c.args.out.now in (
      going_step lines left rest c.loop-line.trace.marks c.run_step-reply.new.trace.marks before after step reply going next words e.acts e.marks,
      record {
        room = omega (arith, kept.room, ap length next, e.spare);
        taken = λ told.
            c.in_default-print_reply.ensures.ok told
            ∙ ap (λ b. b ++ printed reply) (kept.taken told)
            ∙ append_assoc taken (texts lines going.ran) (printed reply)
            ∙ ap (λ t. taken ++ t) (sym (texts_ran lines left rest c.loop-line.trace.marks before after step reply going next words e.acts));
        status = c.status_with-status.ensures.status c.loop-line.trace.marks (has_fallen after) kept.status ∙ ap status_of (sym e.marks);
        later = omega (arith, kept.later, c.print_reply.ensures.later);
        kept = e.kept;
        safe = λ told good.
            safe_step entry old (g.D.Disk.contents c.run_step-reply.new.disk) lines rest going.ran (past_of going) before step reply after words e.acts (e.kept told)
            (g.met.D.Disk.seen_may_be_left c.loop-line.disk log_name told) (e.found told) (e.crash told)
            (subst (λ (l : List Line). Safe entry old lines l going.ran before (past_of going)) next (kept.safe told good));
        from = λ told image left. from_step entry old before step image (kept.from told) (e.crash told image left);
        spoilt = λ told damage.
            spoilt_step entry old before after step reply c.loop-line.trace.marks (map_in after)
            (kept.from told) (g.met.D.Disk.seen_may_be_left c.loop-line.disk log_name told) e.acts (e.found told) (kept.spoilt told)
            (ap has_damage (sym e.marks) ∙ damage);
        disk_later = omega (arith, kept.disk_later, e.cause.later);
        device = λ is. elim (c.status_with-status.ensures.device is) [
          | inl was ↦ rose_later _ _ _ (kept.device was) e.cause.later
          | inr fault ↦ rose_from _ _ _ kept.disk_later (e.cause.failed fault)
        ];
      },
    )

pub returns-then-is_err-clause-comes : goal.returns-then-is_err-clause-comes
returns-then-is_err-clause-comes g c =
    let lines = c.args.lines.now in
    record {
      ran = [];
      marked = c.reserve.ensures.marks ∙ c.requires.empty;
      ends = cut_ends lines lines [] Closed Memory (going_start lines c.reserve.new.self.marks (c.reserve.ensures.marks ∙ c.requires.empty)).runs tt tt;
      printed = λ told.
          (let taken = g.O.Sink.taken c.args.out.now in
          let faults = g.O.Sink.fault_count c.args.out.now in
          cut_prints lines [] Memory taken taken faults faults tt (no_part taken (texts lines []) taken refl) (λ is. cc));
      left = λ told good. nothing_ran (g.D.Disk.contents c.args.disk.now) lines (λ name. g.met.D.Disk.seen_may_be_left c.args.disk.now name told) good;
    }

pub returns-in_default-clause-comes : goal.returns-in_default-clause-comes
returns-in_default-clause-comes g c =
    let going = c.loop-line.invariant.0 in
    let kept = c.loop-line.invariant.1 in
    let lines = c.args.lines.now in
    let left = drop c.loop-line.line-index lines in
    let taken = g.O.Sink.taken c.args.out.now in
    let now = g.O.Sink.taken c.loop-line.out in
    record {
      ran = going.ran;
      marked = going.marked;
      ends = cut_ends lines left going.ran c.loop-line.store Memory going.runs going.named tt;
      printed = λ told. cut_prints lines going.ran Memory taken now (g.O.Sink.fault_count c.args.out.now) (g.O.Sink.fault_count c.loop-line.out) tt
          (whole_part taken (texts lines going.ran) now (kept.taken told)) (λ is. cc);
      left = λ told good. safe_headline (g.D.Disk.contents c.args.disk.now) (g.D.Disk.contents c.loop-line.disk) lines left going.ran c.loop-line.store going.runs (kept.safe told good);
    }

pub returns-in-Err-clause-comes : goal.returns-in-Err-clause-comes
returns-in-Err-clause-comes g c =
    let going = c.loop-line.invariant.0 in
    let kept = c.loop-line.invariant.1 in
    let reply = c.run_step-reply.result in
    let e = c.run_step-reply.ensures in
    let lines = c.args.lines.now in
    let left = drop c.loop-line.line-index lines in
    let rest = drop (c.loop-line.line-index + 1) lines in
    let before = c.loop-line.store in
    let after = c.run_step-reply.new.store in
    let step = c.in-Ok.step in
    let next : left ≡ as_line step ∷ rest = next_line lines c.loop-line.line-index c.line-item.result step c.loop-line-test.true c.line-item.is c.in-Ok.ensures in
    let words : Words step = step_words lines c.loop-line.line-index c.line-item.result step c.requires.built c.loop-line-test.true c.line-item.is c.in-Ok.ensures in
    let entry = g.D.Disk.contents c.args.disk.now in
    let old = g.D.Disk.contents c.loop-line.disk in
    let taken = g.O.Sink.taken c.args.out.now in
    let now = g.O.Sink.taken c.print_reply.new.out in
    let done = going_step lines left rest c.loop-line.trace.marks c.run_step-reply.new.trace.marks before after step reply going next words e.acts e.marks in
    record {
      ran = done.ran;
      marked = done.marked;
      ends = cut_ends lines rest done.ran after c.in-Err.early done.runs done.named c.in-Err.ensures.status;
      printed = λ told.
          (let adds = texts_ran lines left rest c.loop-line.trace.marks before after step reply going next words e.acts in
          let part : TakesPart (taken ++ texts lines going.ran) now (printed reply) =
          subst (λ b. TakesPart b now (printed reply)) (kept.taken told) (c.in-Err.ensures.err told) in
          cut_prints lines done.ran c.in-Err.early taken now _ _ c.in-Err.ensures.status
          (subst (TakesPart taken now) (sym adds) (part_step taken (texts lines going.ran) now (printed reply) part))
          (λ _. stops_at_last lines going.ran (ran_of reply after) taken now (printed reply) adds part));
      left = λ told good.
          safe_headline entry (g.D.Disk.contents c.run_step-reply.new.disk) lines rest done.ran after done.runs
          (safe_step entry old (g.D.Disk.contents c.run_step-reply.new.disk) lines rest going.ran (past_of going) before step reply after words e.acts (e.kept told)
          (g.met.D.Disk.seen_may_be_left c.loop-line.disk log_name told) (e.found told) (e.crash told)
          (subst (λ (l : List Line). Safe entry old lines l going.ran before (past_of going)) next (kept.safe told good)));
    }

pub returns-in-Err-clause-damaged : goal.returns-in-Err-clause-damaged
returns-in-Err-clause-damaged g c told damage =
    let kept = c.loop-line.invariant.1 in
    let reply = c.run_step-reply.result in
    let e = c.run_step-reply.ensures in
    let after = c.run_step-reply.new.store in
    spoilt_step (g.D.Disk.contents c.args.disk.now) (g.D.Disk.contents c.loop-line.disk) c.loop-line.store after c.in-Ok.step reply c.loop-line.trace.marks (map_in after)
    (kept.from told) (g.met.D.Disk.seen_may_be_left c.loop-line.disk log_name told) e.acts (e.found told) (kept.spoilt told)
    (ap has_damage (sym e.marks) ∙ damage)

pub returns-clause-comes : goal.returns-clause-comes
returns-clause-comes g c =
    let going = c.loop-line.invariant.0 in
    let kept = c.loop-line.invariant.1 in
    let lines = c.args.lines.now in
    let left = drop c.loop-line.line-index lines in
    record {
      ran = going.ran;
      marked = going.marked;
      ends = all_ends lines left going.ran c.loop-line.trace.marks c.loop-line.store c.loop-line.status going.runs going.named (none_left lines c.loop-line.line-index c.loop-line-test.false) kept.status;
      printed = λ told. all_prints lines going.ran c.loop-line.trace.marks c.loop-line.status _ _ _ _ kept.status (kept.taken told);
      left = λ told good. safe_headline (g.D.Disk.contents c.args.disk.now) (g.D.Disk.contents c.loop-line.disk) lines left going.ran c.loop-line.store going.runs (kept.safe told good);
    }

pub status_with-status-requires : goal.status_with-status-requires
status_with-status-requires g c = subst (λ (s : Status). IsRunStatus s) (sym c.loop-line.invariant.1.status) (is_run_status c.loop-line.trace.marks)

pub returns-clause-status : goal.returns-clause-status
returns-clause-status g c = subst IsOfLines (sym c.loop-line.invariant.1.status) (ranked c.loop-line.trace.marks)

pub returns-clause-causes : goal.returns-clause-causes
returns-clause-causes g c =
    let kept = c.loop-line.invariant.1 in
    all_causes c.loop-line.status c.loop-line.trace.marks (g.O.Sink.fault_count c.args.out.now) (g.O.Sink.fault_count c.loop-line.out)
    kept.status kept.later
