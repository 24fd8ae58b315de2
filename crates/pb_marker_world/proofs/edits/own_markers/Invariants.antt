use Rattle.std.proofs.Common.{◌≡◌, take}
use Rattle.std.specs.List.{filter_map}
use Rattle.std.specs.Option.{option_map}
use Rattle.pb_marker_world.specs.Machine.{own_marker}
use Rattle.pb_marker_world.specs.Book.{entry_in}
use Rattle.pb_marker_world.proofs.edits.own_markers.Given as goal

abbrev pub invariant-loop-number : goal.invariant-loop-number
invariant-loop-number l =
    l.markers.items ≡ filter_map (λ n. option_map (own_marker l.store n) (entry_in l.places l.store n)) (take l.number-index l.numbers)
