use Rattle.std.proofs.Common.{◌≡◌, ◌+◌, ◌-◌, ◌≤◌, length}
use Rattle.pb_edit.specs.Reading.{items_at, all_at, last_of}
use Rattle.pb_edit.proofs.Loops.{with_front}
use Rattle.pb_edit.proofs.item.read_items.Given as goal

-- the items so far and those of the rest are all, and each has taken a byte at least
abbrev pub invariant-loop-content : goal.invariant-loop-content
invariant-loop-content g l =
    let kind = g.T.Item.form in
    record {
      so_far : with_front l.items.items (items_at kind (length l.from - length l.items.items) (last_of l.items.items) l.rest) ≡ all_at kind l.from;
      room : length l.items.items + length l.rest ≤ length l.from;
    }

abbrev pub decreases-loop-content : goal.decreases-loop-content
decreases-loop-content g l = length l.rest
