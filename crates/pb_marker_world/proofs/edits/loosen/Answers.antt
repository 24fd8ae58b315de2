use Rattle.std.proofs.Common.{◌<◌, List, length, ap, ◌∙◌, subst}
use Rattle.pb_marker_world.specs.declared.records.Place.{Place}
use Rattle.pb_marker_world.specs.Book.{loosened}
use Rattle.pb_marker_world.proofs.Lists.{mapped_more}
use Rattle.pb_marker_world.proofs.edits.loosen.Goals as goal

pub loop-place-preserved : goal.loop-place-preserved
loop-place-preserved c =
    mapped_more (loosened c.args.store c.args.kept.now) _ _ _ _ _
    (subst (λ (x : List Place). c.loop-place.place-index < length x) c.deref_mut-place-items.ensures.value c.loop-place-test.true)
    (c.loop-place.auto.place-items ∙ ap (λ (x : List Place). length x) c.deref_mut-place-items.ensures.value)
    c.loop-place.invariant c.loosened_place.ensures
