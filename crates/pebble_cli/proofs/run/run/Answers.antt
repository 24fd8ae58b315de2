use Rattle.std.proofs.Common.{◌≡◌, ◌∙◌, [], List, true, map, string_bytes, set, get_or, inl, refl, sym, ap, subst}
use Rattle.std.proofs.lemmas.Bool.{cond-true, cond-false}
use Rattle.pebble_cli.specs.Headline.{Headline, IsGood}
use Rattle.pb_machine.specs.Ran.{Ran}
use Rattle.pebble_cli.specs.Texts.{usage_text}
use Rattle.pebble_cli.specs.Usage.{is_run}
use Rattle.pebble_cli.specs.Runs.{Task, usage, IsWhole, task_of, task_of_source, lines_of_task, Prints, RunMeets}
use Rattle.pebble_cli.proofs.Crash.{nothing_ran}
use Rattle.pebble_cli.proofs.Early.{memory_of_words, memory_prints}
use Rattle.pebble_cli.proofs.Progress.{text_prints}
use Rattle.pebble_cli.proofs.run.run.Goals as goal
use Rattle.pb_keys.proofs.Lists.{head_of}

pub returns-then-not-asks-clause-comes : goal.returns-then-not-asks-clause-comes
returns-then-not-asks-clause-comes g c = λ told a b others old new.
    let words = map string_bytes c.args.words.now in
    let left = g.I.Source.left c.args.script.now in
    subst (λ (task : Task). RunMeets task c.say.result c.args.trace.now.marks
    (λ (ran : List Ran). g.O.Sink.told ≡ true → Prints task c.say.result ran (g.O.Sink.taken c.args.out.now) (g.O.Sink.taken c.say.new.out) (g.O.Sink.fault_count c.args.out.now) (g.O.Sink.fault_count c.say.new.out))
    (λ (ran : List Ran). g.D.Disk.told ≡ true → IsGood (g.D.Disk.contents a) → Headline (g.D.Disk.contents a) (g.D.Disk.contents b) (lines_of_task task) ran))
    (sym (cond-false (is_run words) (task_of_source left) usage (sym c.in-Ok.ensures ∙ c.if-not-asks.true)))
    (record {
      ran = [];
      marked = c.requires.empty;
      ends = record { due = inl c.say.ensures.status; each_mark = λ maps. tt; named = tt; every_line = λ whole. absurd (subst IsWhole c.say.ensures.status whole) };
      printed = λ told. text_prints usage c.say.result usage_text (g.O.Sink.taken c.args.out.now) (g.O.Sink.taken c.say.new.out) (g.O.Sink.fault_count c.args.out.now) (g.O.Sink.fault_count c.say.new.out)
          (rw c.say.ensures.status tt) refl (c.say.ensures.text told);
      left = λ told good.
          subst (λ (d : g.row.D.Denot). Headline (g.D.Disk.contents a) (g.D.Disk.contents d) [] []) (head_of a b others others (sym old ∙ new))
          (nothing_ran (g.D.Disk.contents a) [] (λ name. g.met.D.Disk.seen_may_be_left a name told) good);
    })

pub returns-in_default-clause-comes : goal.returns-in_default-clause-comes
returns-in_default-clause-comes g c = λ told a b others old new.
    let words = map string_bytes c.args.words.now in
    let left = g.I.Source.left c.args.script.now in
    record {
      ran = [];
      marked = c.requires.empty;
      ends = memory_of_words left (is_run words);
      printed = λ told. memory_prints (task_of words left) (g.O.Sink.taken c.args.out.now) (g.O.Sink.fault_count c.args.out.now);
      left = λ told good.
          subst (λ (d : g.row.D.Denot). Headline (g.D.Disk.contents a) (g.D.Disk.contents d) (lines_of_task (task_of words left)) []) (head_of a b others others (sym old ∙ new))
          (nothing_ran (g.D.Disk.contents a) (lines_of_task (task_of words left)) (λ name. g.met.D.Disk.seen_may_be_left a name told) good);
    }

pub returns-clause-comes : goal.returns-clause-comes
returns-clause-comes g c = λ told a b others old new.
    let words = map string_bytes c.args.words.now in
    let left = g.I.Source.left c.args.script.now in
    let first = c.index-disks-0.result in
    let at_a : get_or c.args.disks.now 0 first ≡ a = ap (λ (ds : List g.row.D.Denot). get_or ds 0 first) old in
    let at_b : c.run_source.new.disk ≡ b = head_of c.run_source.new.disk b others others (sym (ap (λ (ds : List g.row.D.Denot). set ds 0 c.run_source.new.disk) old) ∙ new) in
    subst (λ (task : Task). RunMeets task c.run_source.result c.run_source.new.trace.marks
    (λ (ran : List Ran). g.O.Sink.told ≡ true → Prints task c.run_source.result ran (g.O.Sink.taken c.args.out.now) (g.O.Sink.taken c.run_source.new.out) (g.O.Sink.fault_count c.args.out.now) (g.O.Sink.fault_count c.run_source.new.out))
    (λ (ran : List Ran). g.D.Disk.told ≡ true → IsGood (g.D.Disk.contents a) → Headline (g.D.Disk.contents a) (g.D.Disk.contents b) (lines_of_task task) ran))
    (sym (cond-true (is_run words) (task_of_source left) usage (sym c.in-Ok.ensures ∙ c.if-not-asks.false)))
    (subst (λ (d : g.row.D.Denot). RunMeets (task_of_source left) c.run_source.result c.run_source.new.trace.marks
    (λ (ran : List Ran). g.O.Sink.told ≡ true → Prints (task_of_source left) c.run_source.result ran (g.O.Sink.taken c.args.out.now) (g.O.Sink.taken c.run_source.new.out) (g.O.Sink.fault_count c.args.out.now) (g.O.Sink.fault_count c.run_source.new.out))
    (λ (ran : List Ran). g.D.Disk.told ≡ true → IsGood (g.D.Disk.contents a) → Headline (g.D.Disk.contents a) (g.D.Disk.contents d) (lines_of_task (task_of_source left)) ran)) at_b
    (subst (λ (d : g.row.D.Denot). RunMeets (task_of_source left) c.run_source.result c.run_source.new.trace.marks
    (λ (ran : List Ran). g.O.Sink.told ≡ true → Prints (task_of_source left) c.run_source.result ran (g.O.Sink.taken c.args.out.now) (g.O.Sink.taken c.run_source.new.out) (g.O.Sink.fault_count c.args.out.now) (g.O.Sink.fault_count c.run_source.new.out))
    (λ (ran : List Ran). g.D.Disk.told ≡ true → IsGood (g.D.Disk.contents d) → Headline (g.D.Disk.contents d) (g.D.Disk.contents c.run_source.new.disk) (lines_of_task (task_of_source left)) ran)) at_a
    (c.run_source.ensures.comes told)))

pub returns-clause-others : goal.returns-clause-others
returns-clause-others g c = λ a others old. (c.run_source.new.disk, ap (λ (ds : List g.row.D.Denot). set ds 0 c.run_source.new.disk) old)
