use Rattle.std.proofs.Common.{◌≡◌, ℕ, List, Result, Err, sym, ap, ◌∙◌}
use Rattle.pb_script.specs.Script.{Lines, Fault}
use Rattle.pb_script.specs.declared.fault.ParseError.{ParseError}
use Rattle.pb_script.specs.declared.fault.ParseError.TheVariants.{Fault as FaultAt}
use Rattle.pb_script.specs.declared.line.Line.{Line}
use Rattle.pb_script.proofs.Turns.{read_lines, read_fault}
use Rattle.pb_script.proofs.script.parse.Goals as goal

pub returns-in-None-clause-ok : goal.returns-in-None-clause-ok
returns-in-None-clause-ok c =
    read_lines c.args.script.now c.in_ok-read.read c.in_ok-read.ensures.ok (sym c.fault.ensures ∙ c.in-None.is) ∙ ap (λ (lines : List Line). Lines lines) (sym c.into_lines.ensures)

same_number : {T : Type 0} (m n : ℕ) → ◌≡◌ {A = Result T ParseError} (Err (FaultAt m)) (Err (FaultAt n)) → m ≡ n
same_number m n is = cc

pub returns-in-Some-clause-fault : goal.returns-in-Some-clause-fault
returns-in-Some-clause-fault c = λ n is.
    read_fault c.args.script.now c.in_ok-read.read c.in-Some.number c.in_ok-read.ensures.ok (sym c.fault.ensures ∙ c.in-Some.is) ∙ ap (λ (k : ℕ). Fault k) (same_number c.in-Some.number n is)
