use Rattle.pb_folder.proofs.AlikeLaws.{held_bare, held_beside, stands_bare, stands_beside}
use Rattle.pb_folder.proofs.laws.named_objects_count.Goals as goal

pub returns-clause-held : goal.returns-clause-held
returns-clause-held c = held_beside

pub returns-clause-stands : goal.returns-clause-stands
returns-clause-stands c = stands_beside

pub returns-clause-bare : goal.returns-clause-bare
returns-clause-bare c = held_bare

pub returns-clause-any : goal.returns-clause-any
returns-clause-any c = stands_bare
