use Rattle.pb_mem.proofs.ImageLemmas.{torn_left}
use Rattle.pb_mem.proofs.laws.a_write_leaves_each_torn_file.Goals as goal

pub returns : goal.returns
returns c = torn_left
