use Rattle.pb_mem.proofs.ImageLemmas.{created_keeps, created_new}
use Rattle.pb_mem.proofs.laws.a_creation_keeps_each_image.Goals as goal

pub returns-clause-keeps : goal.returns-clause-keeps
returns-clause-keeps c = created_keeps

pub returns-clause-new : goal.returns-clause-new
returns-clause-new c = created_new
