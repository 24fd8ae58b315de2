use Rattle.std.proofs.Common.{◌≡◌, map, take}
use Rattle.std.specs.List.{All}
use Rattle.pb_keys.specs.Span.{IsSpan}
use Rattle.pb_rows.specs.Viewed.{mapped_span}
use Rattle.pb_folder_reader.proofs.shown.mapped_dels.Given as goal

abbrev pub invariant-loop-span : goal.invariant-loop-span
invariant-loop-span l = record {
  mapped : l.mapped.items ≡ map (mapped_span l.view) (take l.span-index l.dels);
  in_form : All (λ span. IsSpan (mapped_span l.view span)) (take l.span-index l.dels);
}
