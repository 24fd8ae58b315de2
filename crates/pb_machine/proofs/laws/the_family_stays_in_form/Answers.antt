use Rattle.pb_machine.proofs.FamilyForms.{family_in_form}
use Rattle.pb_machine.proofs.laws.the_family_stays_in_form.Goals as goal

pub returns-clause-lines : goal.returns-clause-lines
returns-clause-lines c = family_in_form
