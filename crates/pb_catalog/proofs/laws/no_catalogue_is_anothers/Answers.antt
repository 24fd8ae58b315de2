use Rattle.pb_catalog.proofs.Found.{not_anothers}
use Rattle.pb_catalog.proofs.laws.no_catalogue_is_anothers.Goals as goal

pub returns : goal.returns
returns c = not_anothers
