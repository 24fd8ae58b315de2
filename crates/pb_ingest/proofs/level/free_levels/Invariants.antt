use Rattle.std.proofs.Common.{◌≡◌, ◌+◌, drop}
use Rattle.std.specs.Prelude.{option_copied}
use Rattle.pb_ingest.specs.Levels.{free_levels}
use Rattle.pb_ingest.proofs.level.free_levels.Given as goal

abbrev pub invariant-loop-level : goal.invariant-loop-level
invariant-loop-level l =
    l.level + free_levels (option_copied l.cut) l.hull (drop l.level l.version.levels) ≡ free_levels (option_copied l.cut) l.hull l.version.levels
