use Rattle.pb_mem.proofs.ImageLemmas.{removed_keeps, removed_new}
use Rattle.pb_mem.proofs.laws.a_removal_keeps_each_image.Goals as goal

pub returns-clause-keeps : goal.returns-clause-keeps
returns-clause-keeps c = removed_keeps

pub returns-clause-new : goal.returns-clause-new
returns-clause-new c = removed_new
