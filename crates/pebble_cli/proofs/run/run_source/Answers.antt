use Rattle.std.proofs.Common.{◌≡◌, ◌≤◌, ◌∙◌, [], ℕ, List, true, nat_lt, length, inl, Err, refl, ap, subst}
use Rattle.pebble_cli.specs.Headline.{Headline, IsGood}
use Rattle.pebble_cli.specs.Lines.{fault_line}
use Rattle.pb_machine.specs.Ran.{Ran}
use Rattle.pebble_cli.specs.Runs.{Task, too_long, IsWhole, max_script, task_of_script, task_of_source, lines_of_task, Prints, RunMeets}
use Rattle.pebble_cli.proofs.Crash.{nothing_ran}
use Rattle.pebble_cli.specs.Texts.{too_long_text}
use Rattle.pebble_cli.proofs.Progress.{text_prints}
use Rattle.pebble_cli.proofs.Early.{task_short, task_long, memory_of_source, memory_prints, read_of_source, read_prints}
use Rattle.pebble_cli.proofs.run.run_source.Goals as goal

pub returns-in-Ok-clause-comes : goal.returns-in-Ok-clause-comes
returns-in-Ok-clause-comes g c = λ told.
    let bytes = c.in-Ok.script.items in
    let left = g.I.Source.left c.args.source.now in
    let comes =
    subst (λ (all : List ℕ). RunMeets (task_of_script all (fault_line all)) c.run_script.result c.run_script.new.trace.marks
    (λ (ran : List Ran). g.O.Sink.told ≡ true → Prints (task_of_script all (fault_line all)) c.run_script.result ran (g.O.Sink.taken c.args.out.now) (g.O.Sink.taken c.run_script.new.out) (g.O.Sink.fault_count c.args.out.now) (g.O.Sink.fault_count c.run_script.new.out))
    (λ (ran : List Ran). g.D.Disk.told ≡ true → IsGood (g.D.Disk.contents c.args.disk.now) → Headline (g.D.Disk.contents c.args.disk.now) (g.D.Disk.contents c.run_script.new.disk) (lines_of_task (task_of_script all (fault_line all))) ran))
    (c.deref.ensures.value ∙ (c.in-Ok.ensures.ok told).0) c.run_script.ensures.comes in
    subst (λ (task : Task). RunMeets task c.run_script.result c.run_script.new.trace.marks
    (λ (ran : List Ran). g.O.Sink.told ≡ true → Prints task c.run_script.result ran (g.O.Sink.taken c.args.out.now) (g.O.Sink.taken c.run_script.new.out) (g.O.Sink.fault_count c.args.out.now) (g.O.Sink.fault_count c.run_script.new.out))
    (λ (ran : List Ran). g.D.Disk.told ≡ true → IsGood (g.D.Disk.contents c.args.disk.now) → Headline (g.D.Disk.contents c.args.disk.now) (g.D.Disk.contents c.run_script.new.disk) (lines_of_task task) ran))
    (task_short left (subst (λ (all : List ℕ). length all ≤ max_script) (c.in-Ok.ensures.ok told).0 c.in-Ok.ensures.short)) comes

pub returns-in-Err-TooLong-clause-comes : goal.returns-in-Err-TooLong-clause-comes
returns-in-Err-TooLong-clause-comes g c = λ told.
    let left = g.I.Source.left c.args.source.now in
    let entry = g.D.Disk.contents c.args.disk.now in
    subst (λ (task : Task). RunMeets task c.say.result c.args.trace.now.marks
    (λ (ran : List Ran). g.O.Sink.told ≡ true → Prints task c.say.result ran (g.O.Sink.taken c.args.out.now) (g.O.Sink.taken c.say.new.out) (g.O.Sink.fault_count c.args.out.now) (g.O.Sink.fault_count c.say.new.out))
    (λ (ran : List Ran). g.D.Disk.told ≡ true → IsGood entry → Headline entry entry (lines_of_task task) ran))
    (task_long left (c.read_script.ensures.too_long told (c.in-Err-TooLong.is ∙ ap Err c.in-Err-TooLong.field-0-is)))
    (record {
      ran = [];
      marked = c.requires;
      ends = record { due = inl c.say.ensures.status; each_mark = λ maps. tt; named = tt; every_line = λ whole. absurd (subst IsWhole c.say.ensures.status whole) };
      printed = λ told. text_prints too_long c.say.result too_long_text (g.O.Sink.taken c.args.out.now) (g.O.Sink.taken c.say.new.out) (g.O.Sink.fault_count c.args.out.now) (g.O.Sink.fault_count c.say.new.out)
          (rw c.say.ensures.status tt) refl (c.say.ensures.text told);
      left = λ told good. nothing_ran entry [] (λ name. g.met.D.Disk.seen_may_be_left c.args.disk.now name told) good;
    })

pub returns-in-Err-Failed-clause-comes : goal.returns-in-Err-Failed-clause-comes
returns-in-Err-Failed-clause-comes g c = λ told.
    let bytes = g.I.Source.left c.args.source.now in
    let entry = g.D.Disk.contents c.args.disk.now in
    record {
      ran = [];
      marked = c.requires;
      ends = read_of_source bytes (nat_lt max_script (length bytes));
      printed = λ told. read_prints (task_of_source bytes) (g.O.Sink.taken c.args.out.now) (g.O.Sink.fault_count c.args.out.now);
      left = λ told good. nothing_ran entry (lines_of_task (task_of_source bytes)) (λ name. g.met.D.Disk.seen_may_be_left c.args.disk.now name told) good;
    }

pub returns-in-Err-NoMemory-clause-comes : goal.returns-in-Err-NoMemory-clause-comes
returns-in-Err-NoMemory-clause-comes g c = λ told.
    let bytes = g.I.Source.left c.args.source.now in
    let entry = g.D.Disk.contents c.args.disk.now in
    record {
      ran = [];
      marked = c.requires;
      ends = memory_of_source bytes (nat_lt max_script (length bytes));
      printed = λ told. memory_prints (task_of_source bytes) (g.O.Sink.taken c.args.out.now) (g.O.Sink.fault_count c.args.out.now);
      left = λ told good. nothing_ran entry (lines_of_task (task_of_source bytes)) (λ name. g.met.D.Disk.seen_may_be_left c.args.disk.now name told) good;
    }
