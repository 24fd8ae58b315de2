use Rattle.std.proofs.Common.{◌≡◌, ◌<◌, take}
use Rattle.std.specs.Prelude.{All}
use Rattle.pb_keys.specs.Span.{IsSpan}
use Rattle.pb_rows.specs.Viewed.{cut_to}
use Rattle.pb_rangedel.proofs.within.cut.Given as goal

abbrev pub invariant-loop-span : goal.invariant-loop-span
invariant-loop-span l = record {
  parts : l.out.items ≡ cut_to l.bounds (take l.span-index l.dels);
  in_form : All IsSpan (take l.span-index l.dels);
  bounds : 0 < l.span-index → IsSpan l.bounds;
}
