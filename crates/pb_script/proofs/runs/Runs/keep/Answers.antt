use Rattle.std.proofs.Common.{◌+◌, List, sym, ap, ◌∙◌, subst}
use Rattle.pb_script.specs.Runs.{number_at, AreKept}
use Rattle.pb_script.specs.declared.runs.Run.{Run}
use Rattle.pb_script.proofs.KeptNumbers.{same_run, run_here, run_before, run_kept}
use Rattle.pb_script.proofs.runs.Runs.keep.Goals as goal

pub returns-then-number-self-clause-kept : goal.returns-then-number-self-clause-kept
returns-then-number-self-clause-kept c = same_run c.args.self.now.runs.items c.args.self.now.next c.args.place c.args.number c.requires.kept c.if-number-self.true c.requires.small

pub returns-clause-kept : goal.returns-clause-kept
returns-clause-kept c =
    subst (λ (runs : List Run). AreKept runs (c.args.number + 1) (c.args.place + 1)) (sym c.in_ok-push.ensures.items)
    (run_kept c.args.self.now.runs.items c.args.place c.args.number c.args.self.now.next c.requires.kept c.requires.small)

pub returns-clause-at : goal.returns-clause-at
returns-clause-at c =
    ap (λ (runs : List Run). number_at runs c.args.place) c.in_ok-push.ensures.items ∙ run_here c.args.self.now.runs.items c.args.place c.args.number

pub returns-clause-before : goal.returns-clause-before
returns-clause-before c = λ at h.
    ap (λ (runs : List Run). number_at runs at) c.in_ok-push.ensures.items ∙ run_before c.args.self.now.runs.items c.args.place c.args.number at h
