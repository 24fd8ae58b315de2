use Rattle.pb_mem.specs.Named.{by_name}
use Rattle.pb_mem.proofs.CutLemmas.{cut_slots}
use Rattle.pb_mem.proofs.disk.MemDiskDisk.power.Goals as goal

pub returns-clause-cut : goal.returns-clause-cut
returns-clause-cut c = rw (← c.self.view_is) (cut_slots c.self.inside.pick (by_name (λ s. s) c.self.inside.slots.entries) (by_name (λ s. s) c.cut_all.new.slots.entries) c.cut_all.ensures)
