-- The family stays in form.
use Rattle.pb_script.specs.Form.{IsLine}
use Rattle.pb_script.specs.declared.line.Line.{Line}
use Rattle.pb_machine.specs.Family.{FamilyState}
use Rattle.pb_machine.specs.After.{line_after}
use Rattle.pb_machine.specs.Agreement.{IsFamily}
use Rattle.pb_machine.specs.Trail.{RanLine}
use Rattle.pb_machine.specs.Ran.{Ran}
use Rattle.pb_machine.proofs.Causes.{no_cause}
use Rattle.pb_machine.proofs.Limits.{few_after}
use Rattle.pb_machine.proofs.NameForms.{handles_in_form, pins_in_form}
use Rattle.pb_machine.proofs.StoreForms.{line_count, stores_in_form}

pub family_in_form : (family : FamilyState) (line : Line) (ran : Ran) → IsLine line → IsFamily family → RanLine family line ran
    → IsFamily (line_after family line ran)
family_in_form family line ran is form right =
    let few = few_after family line ran (record { handles = form.few_handles; pins = form.few_pins }) (no_cause family line ran) in
    record {
      each_store = stores_in_form family line ran is form (λ none. (no_cause family line ran none, line_count family line ran right none));
      each_handle = handles_in_form family line ran form.each_handle;
      each_pin = pins_in_form family line ran form.each_pin (no_cause family line ran);
      few_handles = few.handles;
      few_pins = few.pins;
    }
