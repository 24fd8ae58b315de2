use Rattle.std.proofs.Common.{◌≡◌, ◌+◌, ◌∷◌, [], List, length, sym, ap, ◌∙◌, subst, arith, length-append}
use Rattle.pb_keys.specs.Span.{KeySpan, IsSpan}
use Rattle.pb_table.specs.Spelling.{span_spelling}
use Rattle.pb_table.proofs.CountedLemmas.{ReadSoFar, read_more, stops_short}
use Rattle.pb_table.proofs.ItemLemmas.{one_span}
use Rattle.pb_table.proofs.spans.read_spans.Goals as goal

pub returns-in_default-2-clause-none : goal.returns-in_default-2-clause-none
returns-in_default-2-clause-none c =
    stops_short span_spelling IsSpan one_span c.args.from.now c.in-Some.count c.loop.spans.items c.loop.rest.now c.loop.invariant.so_far
    (omega arith) (omega arith) (rw c.in_default-2.is at c.in_ok-span.ensures.none)

pub loop-preserved : goal.loop-preserved
loop-preserved c =
    let more : length c.push.new.self.items ≡ length c.loop.spans.items + 1 =
    ap length c.in_ok-push.ensures.items ∙ length-append c.loop.spans.items (c.in-Some-2.span ∷ []) in
    record {
      number = omega (arith, more, c.loop.invariant.number);
      so_far = subst (λ (items : List KeySpan). ReadSoFar span_spelling IsSpan c.args.from.now c.in-Some.count items c.in-Some-2.behind.now) (sym c.in_ok-push.ensures.items)
          (read_more span_spelling IsSpan c.args.from.now c.in-Some.count c.loop.spans.items c.loop.rest.now c.in-Some-2.span c.in-Some-2.behind.now c.loop.invariant.so_far
          (rw c.in-Some-2.is at c.in_ok-span.ensures.found) (rw c.in-Some-2.is at c.in_ok-span.ensures.in_form));
    }
