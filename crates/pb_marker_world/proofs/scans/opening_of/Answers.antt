use Rattle.std.proofs.Common.{◌∙◌, sym}
use Rattle.pb_marker_world.proofs.Lists.{opening_in_found, opening_in_passed}
use Rattle.pb_marker_world.proofs.scans.opening_of.Goals as goal

pub returns-then-opening-store : goal.returns-then-opening-store
returns-then-opening-store c =
    sym (c.loop-opening.invariant ∙ opening_in_found _ _ _ _ c.loop-opening-test.true c.if-opening-store.true)

pub loop-opening-preserved : goal.loop-opening-preserved
loop-opening-preserved c =
    c.loop-opening.invariant ∙ opening_in_passed _ _ _ _ c.loop-opening-test.true c.if-opening-store.false
