use Rattle.pb_bytes.proofs.Places.{Reads}
use Rattle.pb_bytes.proofs.varint.read_groups.Given as goal

abbrev pub invariant-loop-place : goal.invariant-loop-place
invariant-loop-place l = Reads l.from l.value l.scale l.place
