use Rattle.std.proofs.Common.{ℕ, List, length, Option, Some, Err, sym, ap, ap₂, ◌∙◌, subst, arith}
use Rattle.std.proofs.lemmas.Bool.Decides.{nat_tests}
use Rattle.std.proofs.lemmas.List.{nil_from_length}
use Rattle.pb_script.specs.Runs.{with_numbers, AreKept}
use Rattle.pb_script.specs.Script.{with_numbered, step}
use Rattle.pb_script.specs.Answers.{Fails}
use Rattle.pb_script.specs.declared.fault.WordFault.{WordFault}
use Rattle.pb_script.specs.declared.line.Line.{Line}
use Rattle.pb_script.specs.declared.runs.Runs.{Runs}
use Rattle.pb_script.proofs.Turns.{begins, next_read, fault_read, between_read, within_read, first_is, first_upto}
use Rattle.pb_script.proofs.script.parse_numbered.Goals as goal

pub loop-rest-init : goal.loop-rest-init
loop-rest-init c = record {
  short = omega arith;
  first = omega arith;
  kept = subst (λ (lines : List Line). AreKept c.new-runs.result.runs.items c.new-runs.result.next (length lines)) (sym c.new-lines.ensures.items) c.new-runs.ensures.kept;
  read = begins c.args.script.now _ (ap (with_numbers c.new-runs.result.runs.items) c.new-lines.ensures.items);
}

pub returns-in-Err-OffGrammar : goal.returns-in-Err-OffGrammar
returns-in-Err-OffGrammar c =
    let off = subst (λ (f : WordFault). Fails f (with_numbered (with_numbers c.loop-rest.runs.runs.items c.loop-rest.lines.items) c.unwrap_or-block.result (step c.loop-rest.place c.first_text.result.0.now))) c.in-Err-OffGrammar.field-0-is c.in-Err-OffGrammar.ensures.read in
    let same = c.in-Err-OffGrammar.ensures.same (ap Err c.in-Err-OffGrammar.field-0-is) in
    record {
      ok =
          c.new.ensures
          ∙ ap₂ (λ (r : Runs) (l : List Line). record { lines = with_numbers r.runs.items l; within = c.block_at-within.result; fault = Some c.loop-rest.number }) same.1 same.0
          ∙ ap (λ (w : Option ℕ). record { lines = with_numbers c.loop-rest.runs.runs.items c.loop-rest.lines.items; within = w; fault = Some c.loop-rest.number }) c.block_at-within.ensures
          ∙ sym (fault_read _ _ c.loop-rest.place c.loop-rest.block c.loop-rest.number c.loop-rest.rest.now c.loop-rest.invariant.read c.first_text.result.0.now c.first_text.result.1.now c.unwrap_or-block.result c.first_text.ensures.texts off);
    }

pub loop-rest-preserved : goal.loop-rest-preserved
loop-rest-preserved c =
    let first = c.unwrap_or-block.ensures ∙ first_is c.loop-rest.place c.loop-rest.block c.loop-rest.number c.block_at-within.result c.block_at-within.ensures in
    record {
      short = omega (arith, c.loop-rest.invariant.short, c.first_text.ensures.shorter);
      first = let upto = first_upto c.loop-rest.place c.loop-rest.block c.loop-rest.number c.loop-rest.invariant.first in omega (arith, upto, first);
      kept = c.in-Ok.ensures.kept;
      read = next_read _ _ c.loop-rest.place c.loop-rest.block c.loop-rest.number c.loop-rest.rest.now c.loop-rest.invariant.read _ c.first_text.result.0.now c.first_text.result.1.now c.numbered_step.new.place c.unwrap_or-block.result first c.first_text.ensures.texts c.in-Ok.ensures.read;
    }

pub returns-in-Between : goal.returns-in-Between
returns-in-Between c = record {
  ok = c.new-in-Between.ensures ∙ sym (between_read _ _ c.loop-rest.place c.loop-rest.block c.loop-rest.number c.loop-rest.rest.now c.loop-rest.invariant.read
      (nil_from_length c.loop-rest.rest.now (first_of (omega arith, grind (arith, nat_tests)))) c.in-Between.is);
}

pub returns : goal.returns
returns c = record {
  ok = c.new-in-Within.ensures ∙ sym (within_read _ _ c.loop-rest.place c.loop-rest.block c.loop-rest.number c.loop-rest.rest.now c.loop-rest.invariant.read c.in-Within.field-0 c.in-Within.field-1
      (nil_from_length c.loop-rest.rest.now (first_of (omega arith, grind (arith, nat_tests)))) c.in-Within.is);
}
