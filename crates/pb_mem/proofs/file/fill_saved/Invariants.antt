use Rattle.std.proofs.Common.{take}
use Rattle.pb_mem.specs.Files.{IsFilled}
use Rattle.pb_mem.proofs.file.fill_saved.Given as goal

abbrev pub invariant-loop-one : goal.invariant-loop-one
invariant-loop-one l = IsFilled l.pick (take l.one-index l.saved) l.initial.bytes l.bytes
