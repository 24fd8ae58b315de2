use Rattle.std.proofs.Common.{ap, Ok, subst}
use Rattle.pb_keys.specs.Key.{IsKey}
use Rattle.pb_table.proofs.ItemLemmas.{behind_key, no_value}
use Rattle.pb_table.proofs.rows.read_row.Goals as goal

pub returns-in_default-2-clause-none : goal.returns-in_default-2-clause-none
returns-in_default-2-clause-none c = λ row rest is spelled.
    c.in_ok-key.ensures.none.0 (ap Ok c.in_default-2.is)
    (subst IsKey (behind_key c.args.from.now c.in-Some.key.now c.in-Some.rest.now c.in-Some.ensures.found c.in-Some.ensures.short row rest is spelled).0 is.key)

pub returns-in_default-3-clause-none : goal.returns-in_default-3-clause-none
returns-in_default-3-clause-none c = λ row rest is spelled.
    no_value c.in-Some.rest.now c.in_ok-value.field-0 c.in_ok-value.ensures.none c.in_default-3.is row rest is
    (behind_key c.args.from.now c.in-Some.key.now c.in-Some.rest.now c.in-Some.ensures.found c.in-Some.ensures.short row rest is spelled).1
