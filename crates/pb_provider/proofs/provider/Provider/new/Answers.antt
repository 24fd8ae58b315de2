use Rattle.std.proofs.Common.{ℕ, map, ap, ◌∙◌}
use Rattle.pb_marker_world.specs.declared.stages.Stage.{Stage}
use Rattle.pb_provider.proofs.StageLemmas.{each_staged}
use Rattle.pb_provider.proofs.provider.Provider.new.Goals as goal

pub invariant_of-result : goal.invariant_of-result
invariant_of-result c = ap (map (λ (staged : ℕ × Stage). staged.0)) c.in_ok-stages.ensures ∙ each_staged c.args.version.now c.args.catalog.entries
