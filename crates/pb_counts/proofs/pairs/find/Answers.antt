use Rattle.std.proofs.Common.{sym, ◌∙◌, arith}
use Rattle.pb_counts.specs.declared.user.User.TheVariants.{Version}
use Rattle.pb_counts.specs.Pairs.{is_before, is_pair}
use Rattle.pb_counts.proofs.Lists.{FitsAt-parted, StandsAt-parted}
use Rattle.pb_counts.proofs.Orders.{pair_order}
use Rattle.pb_counts.proofs.pairs.find.Goals as goal
use Rattle.pb_counts.proofs.pairs.find.Goals.{else-at-pairs-via-then-at-pairs+else-not-is_before, else-at-pairs-via-else-at-pairs}

pub returns-then-not-is_before-clause-stands : goal.returns-then-not-is_before-clause-stands
returns-then-not-is_before-clause-stands c =
    StandsAt-parted is_before is_pair pair_order c.args.pairs.now c.args.pair.now (Version, 0)
    c.place-at.result c.if-at-pairs.true c.place-at.ensures.parts
    (sym c.is_before.ensures ∙ c.if-not-is_before.true)

pub returns-clause-fits : goal.returns-clause-fits
returns-clause-fits c =
    FitsAt-parted is_before is_pair pair_order c.args.pairs.now c.args.pair.now c.place-at.result c.requires
    c.place-at.ensures.within c.place-at.ensures.parts (Version, 0) (λ h.
    elim c.else-at-pairs.branch [
      | else-at-pairs-via-then-at-pairs+else-not-is_before w ↦ sym w.is_before.ensures ∙ w.if-not-is_before.false
      | else-at-pairs-via-else-at-pairs w ↦ absurd (omega (arith, w.if-at-pairs.false))
    ])
