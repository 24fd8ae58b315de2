use Rattle.pb_compact.proofs.Choosing.{chosen_fits}
use Rattle.pb_compact.proofs.JudgedAtOnce.{judged_well}
use Rattle.pb_compact.proofs.laws.compacting.what_is_chosen_fits.Goals as goal

pub returns-clause-fits : goal.returns-clause-fits
returns-clause-fits c = λ v level span place. chosen_fits v level span place

pub returns-clause-judged : goal.returns-clause-judged
returns-clause-judged c = λ v level span hulls place within. judged_well v level span hulls place within
