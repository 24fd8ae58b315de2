use Rattle.std.proofs.Common.{subst}
use Rattle.pb_excise.specs.Drafted.{DraftView, IsDrafted}
use Rattle.pb_excise.proofs.Planning.{is_excise}
use Rattle.pb_excise.proofs.Rules.{breaks_no_rule}
use Rattle.pb_excise.proofs.planned.plan.Goals as goal

pub returns : goal.returns
returns c =
    let edit = c.in_ok-edit.edit in
    let is = c.five-five.ensures.in_form in
    let excise = is_excise c.args.version.now is c.args.span.now c.lo-lo.ensures.in_form c.args.first edit
    (subst (λ (d : DraftView). IsDrafted d edit) c.in_ok-draft.ensures.ok c.in_ok-edit.ensures.ok)
    c.requires.numbers in
    record {
      ok = excise;
      unbroken = breaks_no_rule c.args.version.now c.args.span.now c.args.first edit is c.lo-lo.ensures.in_form excise;
    }
