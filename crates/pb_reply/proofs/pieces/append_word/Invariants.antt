use Rattle.std.proofs.Common.{◌≡◌, ◌++◌, take}
use Rattle.std.specs.List.{flat_map}
use Rattle.pb_keys.specs.Printed.{printed_byte}
use Rattle.pb_reply.proofs.pieces.append_word.Given as goal

abbrev pub invariant-loop-byte : goal.invariant-loop-byte
invariant-loop-byte l = l.out.items ≡ l.fn.out.items ++ flat_map printed_byte (take l.byte-index l.bytes)
