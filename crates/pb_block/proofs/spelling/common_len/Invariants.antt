use Rattle.std.proofs.Common.{◌≡◌, ◌+◌, drop, nat_eq}
use Rattle.std.specs.List.{common_prefix_len}
use Rattle.pb_block.proofs.spelling.common_len.Given as goal

abbrev pub invariant-loop-at : goal.invariant-loop-at
invariant-loop-at l = l.at + common_prefix_len nat_eq (drop l.at l.a) (drop l.at l.b) ≡ common_prefix_len nat_eq l.a l.b
