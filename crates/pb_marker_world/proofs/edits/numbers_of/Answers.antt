use Rattle.std.proofs.Common.{◌∙◌, ap, sym, ◌++◌, [], ◌∷◌}
use Rattle.pb_marker_world.specs.Events.{number_at}
use Rattle.pb_marker_world.proofs.Lists.{filter_map_none, filter_map_some}
use Rattle.pb_marker_world.proofs.edits.numbers_of.Goals as goal
use Rattle.pb_marker_world.proofs.edits.numbers_of.Goals.{in-Some+in_ok-push-in-Some, in-None}

pub loop-a-preserved : goal.loop-a-preserved
loop-a-preserved c =
    elim c.match-number_of.branch [
      | in-Some+in_ok-push-in-Some w ↦
          rw w.numbers-is
          (w.in_ok-push-in-Some.ensures.items
          ∙ (ap (λ xs. xs ++ w.in-Some.number ∷ []) c.loop-a.invariant
          ∙ sym (filter_map_some (number_at c.args.places.now) c.args.at.now c.loop-a.a-index 0 w.in-Some.number c.loop-a-test.true
          (sym w.in-Some.ensures))))
      | in-None w ↦
          rw w.numbers-is
          (c.loop-a.invariant
          ∙ sym (filter_map_none (number_at c.args.places.now) c.args.at.now c.loop-a.a-index 0 c.loop-a-test.true (sym w.in-None.ensures)))
    ]
