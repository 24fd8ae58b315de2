use Rattle.std.proofs.Common.{◌≡◌, ◌+◌, drop}
use Rattle.pb_version.specs.Version.{all_tables, flattened}
use Rattle.pb_excise.specs.Excised.{parts_count}
use Rattle.pb_excise.proofs.planned.parts.Given as goal

abbrev pub invariant-loop-level : goal.invariant-loop-level
invariant-loop-level l = l.count + parts_count l.span (flattened (drop l.level l.version.levels)) ≡ parts_count l.span
    (all_tables l.version)
