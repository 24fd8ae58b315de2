use Rattle.pb_ingest.proofs.FreeLevels.{inside_is_free}
use Rattle.pb_ingest.proofs.laws.inside_the_cut_is_free.Goals as goal

pub returns : goal.returns
returns c v cut hull is within = inside_is_free v cut hull is.levels within
