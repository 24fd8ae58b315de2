use Rattle.std.proofs.Common.{◌≡◌, drop}
use Rattle.pb_marker_world.specs.Book.{opening_in}
use Rattle.pb_marker_world.proofs.scans.opening_of.Given as goal

abbrev pub invariant-loop-opening : goal.invariant-loop-opening
invariant-loop-opening l = opening_in l.openings l.store ≡ opening_in (drop l.opening-index l.openings) l.store
