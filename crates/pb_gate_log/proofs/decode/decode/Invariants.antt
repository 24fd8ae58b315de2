use Rattle.std.proofs.Common.{◌-◌, length}
use Rattle.pb_gate_log.specs.Steps.{StandBefore}
use Rattle.pb_gate_log.proofs.decode.decode.Given as goal

abbrev pub invariant-loop-len : goal.invariant-loop-len
invariant-loop-len l = StandBefore l.gate l.payloads.items l.bytes

abbrev pub decreases-loop-len : goal.decreases-loop-len
decreases-loop-len l = length l.bytes - l.gate
