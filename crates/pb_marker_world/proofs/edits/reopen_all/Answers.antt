use Rattle.std.proofs.Common.{◌<◌, List, length, ap, ◌∙◌, subst}
use Rattle.pb_marker_world.specs.declared.records.Opening.{Opening}
use Rattle.pb_marker_world.specs.Book.{reopened}
use Rattle.pb_marker_world.proofs.Lists.{mapped_more}
use Rattle.pb_marker_world.proofs.edits.reopen_all.Goals as goal

pub loop-old-preserved : goal.loop-old-preserved
loop-old-preserved c =
    mapped_more (reopened c.args.store c.args.opening) _ _ _ _ _
    (subst (λ (x : List Opening). c.loop-old.old-index < length x) c.deref_mut-old-items.ensures.value c.loop-old-test.true)
    (c.loop-old.auto.old-items ∙ ap (λ (x : List Opening). length x) c.deref_mut-old-items.ensures.value)
    c.loop-old.invariant c.reopened_place.ensures
