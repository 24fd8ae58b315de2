use Rattle.std.proofs.Common.{◌≡◌, length}
use Rattle.pb_keys.specs.Span.{IsSpan}
use Rattle.pb_table.specs.Spelling.{span_spelling}
use Rattle.pb_table.proofs.CountedLemmas.{ReadSoFar}
use Rattle.pb_table.proofs.spans.read_spans.Given as goal

abbrev pub invariant-loop : goal.invariant-loop
invariant-loop l = record {
  number : length l.spans.items ≡ l.counter;
  so_far : ReadSoFar span_spelling IsSpan l.from l.count l.spans.items l.rest;
}
