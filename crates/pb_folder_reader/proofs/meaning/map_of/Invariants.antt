use Rattle.std.proofs.Common.{◌≡◌, ◌≤◌, drop, length}
use Rattle.std.specs.FinMap.{empty}
use Rattle.pb_rows.specs.Applied.{applied_newest_first}
use Rattle.pb_folder_reader.proofs.meaning.map_of.Given as goal

abbrev pub invariant-loop-at : goal.invariant-loop-at
invariant-loop-at l = record {
  within : l.at ≤ length l.layers;
  pairs : l.pairs ≡ applied_newest_first (drop l.at l.layers) empty;
}

abbrev pub decreases-loop-at : goal.decreases-loop-at
decreases-loop-at l = l.at
