use Rattle.pb_version.proofs.StoredIn.{stored_with}
use Rattle.pb_version.proofs.laws.on_top.stored_tables.Goals as goal

pub returns : goal.returns
returns c = λ v ps b levels on. stored_with v ps levels on b
