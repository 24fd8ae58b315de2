use Rattle.std.proofs.Common.{◌≡◌, drop}
use Rattle.pb_excise.specs.Drafted.{begun, with_levels}
use Rattle.pb_excise.proofs.planned.draft_of.Given as goal

abbrev pub invariant-loop-level : goal.invariant-loop-level
invariant-loop-level l = with_levels l.span l.level (drop l.level l.version.levels) l.draft ≡ with_levels l.span 0 l.version.levels
    (begun l.first)
