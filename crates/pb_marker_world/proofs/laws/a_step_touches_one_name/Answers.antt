use Rattle.pb_marker_world.proofs.Touched.{object_left, marker_left, names_left}
use Rattle.pb_marker_world.proofs.laws.a_step_touches_one_name.Goals as goal

pub returns-clause-objects : goal.returns-clause-objects
returns-clause-objects c = λ store l after step o. object_left store l step after o

pub returns-clause-markers : goal.returns-clause-markers
returns-clause-markers c = λ store l after step m. marker_left store l step after m

pub returns-clause-none : goal.returns-clause-none
returns-clause-none c = λ store l after step. names_left store l step after
