use Rattle.pb_marker_world.proofs.PutOnce.{lent_put_once}
use Rattle.pb_marker_world.proofs.laws.what_is_lent_is_never_put.Goals as goal

pub returns : goal.returns
returns c = λ w store steps after n m b reached. lent_put_once w b store steps after reached n m
