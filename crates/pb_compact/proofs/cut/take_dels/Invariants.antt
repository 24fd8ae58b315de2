use Rattle.std.proofs.Common.{◌≡◌, ◌++◌, length}
use Rattle.std.specs.Prelude.{filter}
use Rattle.std.specs.List.{flat_map}
use Rattle.pb_rows.proofs.NormalSpans.{Normal}
use Rattle.pb_compact.specs.Cutting.{part_below, part_from}
use Rattle.pb_compact.proofs.SpansCut.{begins_before}
use Rattle.pb_compact.proofs.cut.take_dels.Given as goal

abbrev pub invariant-loop-alloc : goal.invariant-loop-alloc
invariant-loop-alloc l = record {
  taken : l.taken.items ++ flat_map (part_below l.end) l.dels.items ≡ flat_map (part_below l.end) l.fn.dels.items;
  left : flat_map (part_from l.end) l.dels.items ≡ flat_map (part_from l.end) l.fn.dels.items;
  normal : Normal l.dels.items;
}

abbrev pub decreases-loop-alloc : goal.decreases-loop-alloc
decreases-loop-alloc l = length (filter (begins_before l.end) l.dels.items)
