use Rattle.pb_script.proofs.FaultLemmas.{faultless_has_all}
use Rattle.pb_script.proofs.laws.a_faultless_script_has_all.Goals as goal

pub returns : goal.returns
returns c = faultless_has_all
