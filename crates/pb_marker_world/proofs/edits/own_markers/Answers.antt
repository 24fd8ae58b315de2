use Rattle.std.proofs.Common.{◌∙◌, ap, sym, ◌++◌, [], ◌∷◌}
use Rattle.std.specs.Option.{option_map}
use Rattle.pb_marker_world.specs.Machine.{own_marker}
use Rattle.pb_marker_world.specs.Book.{entry_in}
use Rattle.pb_marker_world.proofs.Lists.{filter_map_none, filter_map_some}
use Rattle.pb_marker_world.proofs.edits.own_markers.Goals as goal
use Rattle.pb_marker_world.proofs.edits.own_markers.Goals.{in-Some+in_ok-push-in-Some, in-None}

pub loop-number-preserved : goal.loop-number-preserved
loop-number-preserved c =
    elim c.match-marker_of.branch [
      | in-Some+in_ok-push-in-Some w ↦
          rw w.markers-is
          (w.in_ok-push-in-Some.ensures.items
          ∙ (ap (λ xs. xs ++ w.in-Some.marker ∷ []) c.loop-number.invariant
          ∙ sym (filter_map_some (λ n. option_map (own_marker c.args.store n) (entry_in c.args.places.now c.args.store n)) c.args.numbers.now c.loop-number.number-index 0 w.in-Some.marker c.loop-number-test.true
          (sym w.in-Some.ensures))))
      | in-None w ↦
          rw w.markers-is
          (c.loop-number.invariant
          ∙ sym (filter_map_none (λ n. option_map (own_marker c.args.store n) (entry_in c.args.places.now c.args.store n)) c.args.numbers.now c.loop-number.number-index 0 c.loop-number-test.true (sym w.in-None.ensures)))
    ]
