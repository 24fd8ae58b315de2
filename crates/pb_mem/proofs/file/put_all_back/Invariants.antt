use Rattle.std.proofs.Common.{◌≡◌, ◌≤◌, length, take}
use Rattle.pb_mem.specs.Files.{before_writes}
use Rattle.pb_mem.proofs.file.put_all_back.Given as goal

-- the bytes before the writes that are left are those before all of them
abbrev pub invariant-loop-left : goal.invariant-loop-left
invariant-loop-left l = record {
  within : l.left ≤ length l.saved;
  undone : before_writes (take l.left l.saved) l.bytes ≡ before_writes l.saved l.initial.bytes;
}

abbrev pub decreases-loop-left : goal.decreases-loop-left
decreases-loop-left l = l.left
