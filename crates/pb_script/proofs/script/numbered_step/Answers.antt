use Rattle.std.proofs.Common.{◌≡◌, ◌<◌, ℕ, List, length, Some, sym, ap, ◌∙◌, subst, arith, rules}
use Rattle.pb_script.specs.Runs.{with_numbers, number_at}
use Rattle.pb_script.specs.Script.{with_numbered}
use Rattle.pb_script.specs.declared.line.Line.{Line}
use Rattle.pb_script.proofs.KeptNumbers.{line_kept}
use Rattle.pb_script.proofs.Turns.{one_line}
use Rattle.pb_script.proofs.script.numbered_step.Goals as goal

pub returns-in_ok-keep-clause-read : goal.returns-in_ok-keep-clause-read
returns-in_ok-keep-clause-read c =
    let old = c.args.lines.now.items in
    let new = c.step.new.lines.items in
    let here : c.len-at.result ≡ length old = search rules in
    let one = one_line old new c.step.new.place _ c.in_ok-step.ensures.read (omega (arith, c.if-at-len.true, here, c.len.ensures)) in
    let number_there = subst (λ (n : ℕ). number_at c.keep.new.self.runs.items n ≡ c.args.number) here c.in_ok-keep.ensures.at in
    let before = subst (λ (n : ℕ). (at : ℕ) → at < n → number_at c.keep.new.self.runs.items at ≡ number_at c.args.runs.now.runs.items at) here c.in_ok-keep.ensures.before in
    ap (with_numbered (with_numbers c.args.runs.now.runs.items old) c.args.number) one.1
    ∙ ap (λ (lines : List (ℕ × Line)). Some (c.step.new.place, lines)) (sym (line_kept c.args.runs.now.runs.items c.keep.new.self.runs.items old one.0 c.args.number before number_there))
    ∙ ap (λ (lines : List Line). Some (c.step.new.place, with_numbers c.keep.new.self.runs.items lines)) (sym one.2)
