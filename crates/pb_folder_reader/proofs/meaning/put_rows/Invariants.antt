use Rattle.std.proofs.Common.{◌≡◌, ◌≤◌, drop, length}
use Rattle.pb_rows.specs.Applied.{with_rows}
use Rattle.pb_folder_reader.proofs.meaning.put_rows.Given as goal

abbrev pub invariant-loop-at : goal.invariant-loop-at
invariant-loop-at l = record {
  within : l.at ≤ length l.rows;
  pairs : l.pairs ≡ with_rows l.initial.pairs (drop l.at l.rows);
}

abbrev pub decreases-loop-at : goal.decreases-loop-at
decreases-loop-at l = l.at
