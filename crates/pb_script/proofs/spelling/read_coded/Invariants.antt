use Rattle.std.proofs.Common.{◌≡◌, length}
use Rattle.pb_script.specs.Strings.{bytes_of}
use Rattle.pb_script.proofs.Coded.{with_bytes}
use Rattle.pb_script.proofs.spelling.read_coded.Given as goal

abbrev pub invariant-loop-rest : goal.invariant-loop-rest
invariant-loop-rest l = bytes_of l.word ≡ with_bytes l.bytes.items (bytes_of l.rest)

abbrev pub decreases-loop-rest : goal.decreases-loop-rest
decreases-loop-rest l = length l.rest
