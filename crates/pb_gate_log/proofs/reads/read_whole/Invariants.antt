use Rattle.std.proofs.Common.{◌-◌, vec_len}
use Rattle.pb_gate_log.proofs.ReadLemmas.{IsReading}
use Rattle.pb_gate_log.proofs.reads.read_whole.Given as goal

abbrev pub invariant-loop-piece : goal.invariant-loop-piece
invariant-loop-piece g l =
    IsReading g.D.Disk.told (g.D.Disk.contents l.fn.disk) (g.D.Disk.contents l.disk) (g.D.Disk.fault_count l.fn.disk) (g.D.Disk.fault_count l.disk) l.file l.len l.bytes.items

abbrev pub decreases-loop-piece : goal.decreases-loop-piece
decreases-loop-piece g l = l.len - vec_len l.bytes
