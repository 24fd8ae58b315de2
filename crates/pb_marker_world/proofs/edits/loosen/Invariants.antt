use Rattle.std.proofs.Common.{◌≡◌, ◌++◌, take, drop, map}
use Rattle.pb_marker_world.specs.Book.{loosened}
use Rattle.pb_marker_world.proofs.edits.loosen.Given as goal

abbrev pub invariant-loop-place : goal.invariant-loop-place
invariant-loop-place l = l.place-items ≡ map (loosened l.store l.kept) (take l.place-index l.fn.places.items) ++ drop l.place-index l.fn.places.items
