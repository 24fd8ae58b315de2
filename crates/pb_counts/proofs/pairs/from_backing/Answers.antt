use Rattle.std.proofs.Common.{length, drop, sym, subst, arith, ◌-◌}
use Rattle.std.proofs.lemmas.List.{take_all, length-drop}
use Rattle.pb_counts.specs.Ascending.{Ascends}
use Rattle.pb_counts.specs.Pairs.{is_before}
use Rattle.pb_counts.proofs.Lists.{Ascends-drop}
use Rattle.pb_counts.proofs.pairs.from_backing.Goals as goal

pub returns-clause-ascends : goal.returns-clause-ascends
returns-clause-ascends c =
    let long = length-drop c.loop-at.at c.args.pairs.now in
    subst (Ascends is_before) (sym (take_all (length c.args.pairs.now - c.loop-at.at) (drop c.loop-at.at c.args.pairs.now) (omega arith)))
    (Ascends-drop is_before c.args.pairs.now c.loop-at.at c.requires)
