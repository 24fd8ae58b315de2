use Rattle.std.proofs.Common.{◌≡◌, ◌+◌, drop}
use Rattle.pb_version.specs.Version.{all_tables, flattened}
use Rattle.pb_excise.specs.Excised.{left_count}
use Rattle.pb_excise.proofs.planned.tables_after.Given as goal

abbrev pub invariant-loop-level : goal.invariant-loop-level
invariant-loop-level l = l.count + left_count l.span (flattened (drop l.level l.version.levels)) ≡ left_count l.span
    (all_tables l.version)
