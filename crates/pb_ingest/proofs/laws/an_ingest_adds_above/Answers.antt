use Rattle.pb_ingest.proofs.Ingest.{adds_above}
use Rattle.pb_ingest.proofs.laws.an_ingest_adds_above.Goals as goal

pub returns : goal.returns
returns c v cut written edit one rests new = adds_above v cut written edit rests new one
