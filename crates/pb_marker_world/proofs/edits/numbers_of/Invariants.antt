use Rattle.std.proofs.Common.{◌≡◌, take}
use Rattle.std.specs.List.{filter_map}
use Rattle.pb_marker_world.specs.Events.{number_at}
use Rattle.pb_marker_world.proofs.edits.numbers_of.Given as goal

abbrev pub invariant-loop-a : goal.invariant-loop-a
invariant-loop-a l = l.numbers.items ≡ filter_map (number_at l.places) (take l.a-index l.at)
