use Rattle.std.proofs.Common.{◌≡◌, drop}
use Rattle.std.specs.List.{list_any}
use Rattle.pb_provider.proofs.StageLemmas.{shows}
use Rattle.pb_provider.proofs.stages.is_shown.Given as goal

abbrev pub invariant-loop-level : goal.invariant-loop-level
invariant-loop-level l = list_any (λ ts. list_any (shows l.number) ts) (drop l.level l.version.levels) ≡ list_any (λ ts. list_any (shows l.number) ts) l.version.levels
