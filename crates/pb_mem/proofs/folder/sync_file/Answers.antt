use Rattle.std.proofs.Common.{Some, sym, ap, refl, rules}
use Rattle.pb_mem.specs.Files.{synced}
use Rattle.pb_mem.specs.Slots.{with_file}
use Rattle.pb_mem.proofs.FolderLemmas.{slot_changed, slot_absent}
use Rattle.pb_mem.proofs.folder.sync_file.Goals as goal

pub returns-in-None : goal.returns-in-None
returns-in-None c = slot_absent c.args.name.now c.args.slots.now c.get_mut.follows.lender-at-none (with_file synced) (sym c.in-None.ensures.value) (ap (λ m. m.entries) c.get_mut.follows.holds-at-none) refl

pub returns-in-Some : goal.returns-in-Some
returns-in-Some c =
    let w = c.sync.new.self in
    slot_changed c.args.name.now c.args.slots.now (c.get_mut.follows.lender w) c.in-Some.slot.now w (with_file synced)
    (sym c.in-Some.ensures.value) ((c.get_mut.follows.holds w).3 (search rules)) (ap Some c.sync.ensures)
