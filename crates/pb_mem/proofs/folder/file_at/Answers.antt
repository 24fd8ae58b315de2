use Rattle.std.proofs.Common.{sym, ap, ◌∙◌}
use Rattle.pb_mem.specs.Slots.{file_of}
use Rattle.pb_mem.proofs.FolderLemmas.{slot_at}
use Rattle.pb_mem.proofs.folder.file_at.Goals as goal

pub returns-in-None : goal.returns-in-None
returns-in-None c = sym (ap file_of (slot_at c.args.slots.now c.args.name.now ∙ sym c.in-None.ensures.value))

pub returns-in-Some : goal.returns-in-Some
returns-in-Some c = c.file.ensures ∙ sym (ap file_of (slot_at c.args.slots.now c.args.name.now ∙ sym c.in-Some.ensures.value))
