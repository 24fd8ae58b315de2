use Rattle.std.proofs.Common.{◌≡◌, ◌++◌, take, drop, map}
use Rattle.pb_marker_world.specs.Book.{written}
use Rattle.pb_marker_world.proofs.edits.write.Given as goal

abbrev pub invariant-loop-place : goal.invariant-loop-place
invariant-loop-place l = l.place-items ≡ map (written l.store l.number l.entry) (take l.place-index l.fn.places.items) ++ drop l.place-index l.fn.places.items
