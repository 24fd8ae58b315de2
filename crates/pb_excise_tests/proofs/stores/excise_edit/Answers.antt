use Rattle.std.proofs.Common.{◌≡◌, ◌∙◌, ap, arith, subst, sym}
use Rattle.pb_edit.specs.Grammar.{IsEdit}
use Rattle.pb_version.specs.Version.{FiveNumbers}
use Rattle.pb_excise.proofs.Walk.{unused_from}
use Rattle.pb_excise_tests.proofs.stores.excise_edit.Goals as goal

pub plan-requires-clause-unused : goal.plan-requires-clause-unused
plan-requires-clause-unused c =
    let next : c.five.inside.next ≡ c.args.version.now.five.next =
    ap (λ (f : FiveNumbers). f.next) (c.five.view_is ∙ c.five-five.ensures.value) in
    unused_from c.args.version.now c.five.inside.next c.five-five.ensures.in_form (omega (arith, next))

pub returns : goal.returns
returns c = record { ok = subst IsEdit (sym c.counted.ensures) (c.in_ok-edit.ensures.ok.in_form c.args.accepted c.requires.accepted) }
