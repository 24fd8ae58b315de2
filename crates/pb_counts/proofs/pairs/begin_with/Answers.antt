use Rattle.std.proofs.Common.{sym, ◌∙◌}
use Rattle.pb_counts.specs.declared.user.User.TheVariants.{Version}
use Rattle.pb_counts.proofs.Orders.{not_zero}
use Rattle.pb_counts.proofs.Used.{first_used}
use Rattle.pb_counts.proofs.pairs.begin_with.Goals as goal

pub returns-then-not-is_empty : goal.returns-then-not-is_empty
returns-then-not-is_empty c =
    let some = not_zero _ (sym c.is_empty.ensures ∙ c.if-not-is_empty.true) in
    first_used c.args.pairs.now c.args.backing (Version, 0) c.requires.ascends (c.requires.first (Version, 0) some) some
