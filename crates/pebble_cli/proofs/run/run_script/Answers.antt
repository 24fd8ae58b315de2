use Rattle.std.proofs.Common.{◌≡◌, ◌∙◌, [], List, Err, true, sym, ap, subst}
use Rattle.pebble_cli.specs.Headline.{Headline, IsGood}
use Rattle.pebble_cli.specs.Lines.{fault_line}
use Rattle.pb_machine.specs.Ran.{Ran}
use Rattle.pebble_cli.specs.Runs.{Task, script, task_of_script, lines_of_task, Prints, RunMeets}
use Rattle.pebble_cli.proofs.Crash.{nothing_ran}
use Rattle.pebble_cli.proofs.Early.{memory_of_script, memory_prints}
use Rattle.pebble_cli.proofs.run.run_script.Goals as goal

pub returns-in-Ok-clause-comes : goal.returns-in-Ok-clause-comes
returns-in-Ok-clause-comes g c =
    let bytes = c.args.script.now in
    subst (λ (task : Task). RunMeets task c.run_lines.result c.run_lines.new.trace.marks
    (λ (ran : List Ran). g.O.Sink.told ≡ true → Prints task c.run_lines.result ran (g.O.Sink.taken c.args.out.now) (g.O.Sink.taken c.run_lines.new.out) (g.O.Sink.fault_count c.args.out.now) (g.O.Sink.fault_count c.run_lines.new.out))
    (λ (ran : List Ran). g.D.Disk.told ≡ true → IsGood (g.D.Disk.contents c.args.disk.now) → Headline (g.D.Disk.contents c.args.disk.now) (g.D.Disk.contents c.run_lines.new.disk) (lines_of_task task) ran))
    (ap script (c.deref.ensures.value ∙ c.in-Ok.ensures.ok.1) ∙ ap (task_of_script bytes) (sym c.in-Ok.ensures.ok.0))
    c.run_lines.ensures.comes

pub returns-in-Err-Fault-clause-comes : goal.returns-in-Err-Fault-clause-comes
returns-in-Err-Fault-clause-comes g c =
    let bytes = c.args.script.now in
    let entry = g.D.Disk.contents c.args.disk.now in
    let found = c.read_lines.ensures.fault c.in-Err-Fault.number (c.in-Err-Fault.is ∙ ap Err c.in-Err-Fault.field-0-is) in
    subst (λ (task : Task). RunMeets task c.say_fault.result c.args.trace.now.marks
    (λ (ran : List Ran). g.O.Sink.told ≡ true → Prints task c.say_fault.result ran (g.O.Sink.taken c.args.out.now) (g.O.Sink.taken c.say_fault.new.out) (g.O.Sink.fault_count c.args.out.now) (g.O.Sink.fault_count c.say_fault.new.out))
    (λ (ran : List Ran). g.D.Disk.told ≡ true → IsGood entry → Headline entry entry (lines_of_task task) ran))
    (sym (ap (task_of_script bytes) found))
    (record {
      ran = [];
      marked = c.requires;
      ends = c.say_fault.ensures.ends;
      printed = c.say_fault.ensures.prints;
      left = λ told good. nothing_ran entry [] (λ name. g.met.D.Disk.seen_may_be_left c.args.disk.now name told) good;
    })

pub returns-in-Err-NoMemory-clause-comes : goal.returns-in-Err-NoMemory-clause-comes
returns-in-Err-NoMemory-clause-comes g c =
    let bytes = c.args.script.now in
    let entry = g.D.Disk.contents c.args.disk.now in
    record {
      ran = [];
      marked = c.requires;
      ends = memory_of_script bytes (fault_line bytes);
      printed = λ told. memory_prints (task_of_script bytes (fault_line bytes)) (g.O.Sink.taken c.args.out.now) (g.O.Sink.fault_count c.args.out.now);
      left = λ told good. nothing_ran entry (lines_of_task (task_of_script bytes (fault_line bytes))) (λ name. g.met.D.Disk.seen_may_be_left c.args.disk.now name told) good;
    }
