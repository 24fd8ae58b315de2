use Rattle.std.proofs.Common.{◌≡◌, ◌+◌, drop}
use Rattle.pb_excise.specs.Excised.{left_count}
use Rattle.pb_excise.proofs.planned.left_on.Given as goal

abbrev pub invariant-loop-table : goal.invariant-loop-table
invariant-loop-table l = l.count + left_count l.span (drop l.table-index l.tables) ≡ left_count l.span l.tables
