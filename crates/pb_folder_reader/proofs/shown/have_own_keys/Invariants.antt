use Rattle.std.proofs.Common.{◌≡◌, drop}
use Rattle.pb_folder_reader.specs.Shown.{are_own_keys}
use Rattle.pb_folder_reader.proofs.shown.have_own_keys.Given as goal

abbrev pub invariant-loop-at : goal.invariant-loop-at
invariant-loop-at l = are_own_keys l.rows ≡ are_own_keys (drop l.at l.rows)
