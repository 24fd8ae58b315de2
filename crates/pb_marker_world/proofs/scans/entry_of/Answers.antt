use Rattle.std.proofs.Common.{◌∙◌, sym}
use Rattle.std.proofs.lemmas.Bool.{and_from, and_left, and_right, eq-eqb, ne_eqb}
use Rattle.pb_marker_world.proofs.Lists.{entry_in_found, entry_in_passed}
use Rattle.pb_marker_world.proofs.scans.entry_of.Goals as goal
use Rattle.pb_marker_world.proofs.scans.entry_of.Goals.{else-place-store-via-then-place-store+else-place-number, else-place-store-via-else-place-store}

pub returns-then-place-number : goal.returns-then-place-number
returns-then-place-number c =
    sym (c.loop-place.invariant
    ∙ entry_in_found _ _ _ _ _ c.loop-place-test.true c.place-item.is
    (and_from _ _ (eq-eqb _ _ c.if-place-store.true) (eq-eqb _ _ c.if-place-number.true)))

pub loop-place-preserved : goal.loop-place-preserved
loop-place-preserved c =
    c.loop-place.invariant
    ∙ entry_in_passed _ _ _ _ _ c.loop-place-test.true c.place-item.is
    (elim c.else-place-store.branch [
      | else-place-store-via-then-place-store+else-place-number w ↦ and_right _ _ (ne_eqb _ _ w.if-place-number.false)
      | else-place-store-via-else-place-store w ↦ and_left _ _ (ne_eqb _ _ w.if-place-store.false)
    ])
