use Rattle.pb_version.proofs.Views.{viewed_by_bounds}
use Rattle.pb_version.proofs.laws.tables_are_viewed_by_bounds.Goals as goal

pub returns : goal.returns
returns c = viewed_by_bounds
