use Rattle.std.proofs.Common.{◌≡◌, ◌≤◌, ◌<◌, length, get_or, true, false, sym, ap, ◌∙◌, arith}
use Rattle.std.proofs.lemmas.Bool.{le-ltb}
use Rattle.std.proofs.lemmas.List.{get_or_default}
use Rattle.pb_keys.specs.Key.{prefix_of}
use Rattle.pb_keys.specs.Order.{is_upto}
use Rattle.pb_keys.specs.Span.{KeySpan, holds_key}
use Rattle.pb_keys.proofs.OrderFacts.{le-is_upto}
use Rattle.pb_rows.proofs.LookLaws.{covered_here, covered_nowhere}
use Rattle.pb_rangedel.proofs.Passing.{end_more, passed_part}
use Rattle.pb_rangedel.proofs.rows.hides.Goals as goal
use Rattle.pb_rangedel.proofs.rows.hides.Goals.{then-loop-at-test+else-le, else-loop-at-test}

pub loop-at-preserved : goal.loop-at-preserved
loop-at-preserved c =
    let span = c.index-dels-at.result in
    let test : is_upto span.hi (prefix_of c.args.key.now) ≡ true =
    (λ i. is_upto (sym c.hi.ensures.value i) (sym c.prefix-prefix.ensures.value i)) ∙ sym (c.le.ensures ∙ le-is_upto c.hi.result.now c.prefix-prefix.result.now) ∙ c.if-le.true in
    end_more (prefix_of c.args.key.now) c.args.dels.now c.loop-at.at span c.loop-at.invariant (omega arith) c.index-dels-at.is test

pub returns-then-at-dels-clause-answer : goal.returns-then-at-dels-clause-answer
returns-then-at-dels-clause-answer c =
    let dels = c.args.dels.now in
    let key = c.args.key.now in
    let at = c.loop-at.at in
    let within : at < length dels = omega arith in
    let stops = λ (h : at < length dels) (d : KeySpan). elim c.loop-at-test.branch as (λ _. is_upto (get_or dels at d).hi (prefix_of key) ≡ false) [
      | then-loop-at-test+else-le w ↦
          ap (λ (s : KeySpan). is_upto s.hi (prefix_of key)) (get_or_default dels at d w.index-dels-at.result h ∙ sym w.index-dels-at.is)
          ∙ (λ i. is_upto (sym w.hi.ensures.value i) (sym c.prefix-prefix.ensures.value i)) ∙ sym (w.le.ensures ∙ le-is_upto w.hi.result.now c.prefix-prefix.result.now) ∙ w.if-le.false
      | else-loop-at-test w ↦ absurd (omega arith)
    ] in
    c.contains.ensures ∙ ap (λ (s : KeySpan). holds_key s key) c.index-dels-at-then-at-dels.is
    ∙ covered_here dels key at c.index-dels-at-then-at-dels.result c.requires.in_form c.requires.apart
    (passed_part (prefix_of key) dels at c.requires.in_form c.requires.apart c.loop-at.invariant stops) within

pub returns-else-at-dels-clause-answer : goal.returns-else-at-dels-clause-answer
returns-else-at-dels-clause-answer c =
    let dels = c.args.dels.now in
    let key = c.args.key.now in
    let at = c.loop-at.at in
    let past : length dels ≤ at = omega arith in
    le-ltb at (length dels) past
    ∙ sym (covered_nowhere dels key at c.requires.in_form c.requires.apart (passed_part (prefix_of key) dels at c.requires.in_form c.requires.apart c.loop-at.invariant (λ h d. absurd (omega arith))) past)
