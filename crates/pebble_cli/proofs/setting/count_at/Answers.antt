-- A payload that begins with no count and kind.
use Rattle.std.proofs.Common.{length, arith, ap}
use Rattle.pebble_cli.proofs.SettingFacts.{if_none, behind_number}
use Rattle.pebble_cli.proofs.setting.count_at.Goals as goal

pub returns-in_err-kind-clause-none : goal.returns-in_err-kind-clause-none
returns-in_err-kind-clause-none c =
    if_none _ _ c.from_residual-in_err-kind.ensures (λ count rest low e.
    let same = behind_number _ _ rest _ count c.in_ok-count.ensures.below low c.in_ok-count.ensures.found e in
    omega (arith, c.in_err-kind.ensures.cases, ap length same))

pub returns-then-kind-ne-SET-clause-none : goal.returns-then-kind-ne-SET-clause-none
returns-then-kind-ne-SET-clause-none c = λ count rest low e.
    let same = behind_number _ _ rest _ count c.in_ok-count.ensures.below low c.in_ok-count.ensures.found e in
    let front = c.in_ok-kind.ensures.cases.0 in
    c.if-kind-ne-SET.true cc
