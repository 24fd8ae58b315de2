use Rattle.pb_marker_world.proofs.PutOnce.{object_put_once, marker_put_once, intended_is_absent, beginning_is_unmarked}
use Rattle.pb_marker_world.proofs.laws.names_are_put_once.Goals as goal

pub returns-clause-object : goal.returns-clause-object
returns-clause-object c = λ w store steps after n b reached. object_put_once w b store steps after reached n

pub returns-clause-marker : goal.returns-clause-marker
returns-clause-marker c = λ w store steps after n m b reached. marker_put_once w b store steps after reached n m

pub returns-clause-intended : goal.returns-clause-intended
returns-clause-intended c = λ w s n e b. intended_is_absent w b s n e

pub returns-clause-beginning : goal.returns-clause-beginning
returns-clause-beginning c = λ w s n e b. beginning_is_unmarked w b s n e
