use Rattle.std.proofs.Common.{◌≡◌, ◌++◌, length, take}
use Rattle.std.specs.List.{flat_map}
use Rattle.pb_bytes.specs.Varint.{varint}
use Rattle.pb_table.specs.Spelling.{span_spelling}
use Rattle.pb_table.proofs.spans.put_spans.Given as goal

abbrev pub invariant-loop-span : goal.invariant-loop-span
invariant-loop-span l = l.out.items ≡ l.fn.out.items ++ (varint (length l.spans) ++ flat_map span_spelling (take l.span-index l.spans))
