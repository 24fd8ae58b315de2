use Rattle.std.proofs.Common.{◌≡◌, ◌++◌, take, drop, map}
use Rattle.pb_marker_world.specs.Book.{reopened}
use Rattle.pb_marker_world.proofs.edits.reopen_all.Given as goal

abbrev pub invariant-loop-old : goal.invariant-loop-old
invariant-loop-old l = l.old-items ≡ map (reopened l.store l.opening) (take l.old-index l.fn.openings.items) ++ drop l.old-index l.fn.openings.items
