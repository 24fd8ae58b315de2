use Rattle.std.proofs.Common.{◌≡◌, ◌+◌, drop}
use Rattle.pb_excise.specs.Excised.{parts_count}
use Rattle.pb_excise.proofs.planned.parts_on.Given as goal

abbrev pub invariant-loop-table : goal.invariant-loop-table
invariant-loop-table l = l.count + parts_count l.span (drop l.table-index l.tables) ≡ parts_count l.span l.tables
