-- Whatever spells the rest completes the number, and the rest has no more groups than places are left.
use Rattle.std.proofs.Common.{◌≡◌, ◌*◌, ◌-◌, ◌^◌, ◌<◌, ◌≤◌, ◌++◌, length, take}
use Rattle.pb_bytes.specs.Varint.{groups}
use Rattle.pb_bytes.proofs.varint.spell.Given as goal

abbrev pub invariant-loop-rest : goal.invariant-loop-rest
invariant-loop-rest l = record {
  whole : length l.bytes ≡ 10;
  placed : l.len ≤ 9;
  left : l.rest < 2 * 128 ^ (9 - l.len);
  completed : take l.len l.bytes ++ groups (10 - l.len) l.rest ≡ groups 10 l.value;
}

abbrev pub decreases-loop-rest : goal.decreases-loop-rest
decreases-loop-rest l = l.rest
