use Rattle.pb_mem.specs.Named.{by_name}
use Rattle.pb_mem.proofs.SlotLemmas.{synced_slot}
use Rattle.pb_mem.proofs.disk.MemDiskDisk.sync.Goals as goal

pub returns-clause-ok : goal.returns-clause-ok
returns-clause-ok c = rw (← c.self.view_is) (synced_slot (by_name (λ s. s) c.self.inside.slots.entries) (by_name (λ s. s) c.sync_file.new.slots.entries) c.args.file.now c.sync_file.ensures)
