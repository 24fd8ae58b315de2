use Rattle.std.proofs.Common.{◌≡◌, map, take}
use Rattle.std.specs.List.{All}
use Rattle.pb_keys.specs.Key.{IsKey}
use Rattle.pb_rows.specs.Viewed.{mapped_key, mapped_row}
use Rattle.pb_folder_reader.proofs.shown.mapped_rows.Given as goal

abbrev pub invariant-loop-row : goal.invariant-loop-row
invariant-loop-row l = record {
  mapped : l.mapped.items ≡ map (mapped_row l.view) (take l.row-index l.rows);
  in_form : All (λ row. IsKey (mapped_key l.view row.key)) (take l.row-index l.rows);
}
