use Rattle.pb_ingest.proofs.Ingest.{is_applied}
use Rattle.pb_ingest.proofs.laws.an_ingest_is_applied.Goals as goal

pub returns : goal.returns
returns c v cut written edit layers is alone rests new apart hulls = is_applied v cut written edit rests new layers is.levels alone apart hulls
