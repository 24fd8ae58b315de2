use Rattle.pb_compact.proofs.Fitting.{still_fits}
use Rattle.pb_compact.proofs.laws.compacting.adding_above_keeps_it_fit.Goals as goal

pub returns : goal.returns
returns c = still_fits
