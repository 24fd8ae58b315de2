use Rattle.std.proofs.Common.{◌≡◌, drop}
use Rattle.pb_marker_world.specs.Book.{entry_in}
use Rattle.pb_marker_world.proofs.scans.entry_of.Given as goal

abbrev pub invariant-loop-place : goal.invariant-loop-place
invariant-loop-place l = entry_in l.places l.store l.number ≡ entry_in (drop l.place-index l.places) l.store l.number
