use Rattle.pb_script.proofs.FaultLemmas.{fault_is_first, off_is_fault, open_is_fault}
use Rattle.pb_script.proofs.laws.a_fault_is_the_first.Goals as goal

pub returns-clause-first : goal.returns-clause-first
returns-clause-first c = fault_is_first

pub returns-clause-off : goal.returns-clause-off
returns-clause-off c = off_is_fault

pub returns-clause-unended : goal.returns-clause-unended
returns-clause-unended c = open_is_fault
