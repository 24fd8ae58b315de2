use Rattle.std.proofs.Common.{sym, subst}
use Rattle.pb_marker_world.specs.Sound.{IsSteady}
use Rattle.pb_marker_world.proofs.Steady.{empty_steady}
use Rattle.pb_marker_world.proofs.marker_world.World.new.Goals as goal

pub invariant_of-result : goal.invariant_of-result
invariant_of-result c = subst (λ w. IsSteady w) (sym c.new.ensures.world) empty_steady

pub returns-clause-steady : goal.returns-clause-steady
returns-clause-steady c = subst (λ w. IsSteady w) (sym c.new.ensures.world) empty_steady
