use Rattle.std.proofs.Common.{◌≡◌, take, map}
use Rattle.pb_rows.specs.Viewed.{mapped_row}
use Rattle.pb_synth.proofs.rows.mapped_rows.Given as goal

abbrev pub invariant-loop-row : goal.invariant-loop-row
invariant-loop-row l = l.mapped.items ≡ map (mapped_row l.view) (take l.row-index l.rows)
