use Rattle.pb_marker_world.proofs.RunLaws.{lender_protects}
use Rattle.pb_marker_world.proofs.laws.a_lender_protects.Goals as goal

pub returns : goal.returns
returns c = λ w h g k m b. lender_protects w b h g k m
