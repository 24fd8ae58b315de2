use Rattle.std.proofs.Common.{sym, subst, arith}
use Rattle.pb_edit.specs.Grammar.{IsEdit}
use Rattle.pb_excise.proofs.Walk.{unused_from}
use Rattle.pb_excise_tests.proofs.rules.last_edit.Goals as goal

pub plan-requires-clause-unused : goal.plan-requires-clause-unused
plan-requires-clause-unused c = unused_from c.args.version.now 4611686018427387901 c.five-five.ensures.in_form c.requires.free

pub returns : goal.returns
returns c = record { ok = subst IsEdit (sym c.counted.ensures) (c.in_ok-edit.ensures.ok.in_form 3 (omega arith)) }
