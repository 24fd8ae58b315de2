use Rattle.std.proofs.Common.{Option, Some, IsSome, sym, ap, subst, ◌∙◌, rules}
use Rattle.pb_mem.specs.Files.{FileView}
use Rattle.pb_mem.specs.Slots.{SlotView, file_of, removed}
use Rattle.pb_mem.proofs.FolderLemmas.{slot_at, slot_changed, always_err, not_none}
use Rattle.pb_mem.proofs.folder.remove_file.Goals as goal

pub unreachable-requires : goal.unreachable-requires
unreachable-requires c =
    not_none FileView (subst (λ (s : Option SlotView). IsSome (file_of s)) (slot_at c.args.slots.now c.args.name.now ∙ sym c.in-None.ensures.value) c.requires)

pub returns-in_err-remove-in-Some-clause-err : goal.returns-in_err-remove-in-Some-clause-err
returns-in_err-remove-in-Some-clause-err c =
    let w = c.remove.new.self in
    always_err c.from_residual.result
    (slot_changed c.args.name.now c.args.slots.now (c.get_mut.follows.lender w) c.in-Some.slot.now w (λ s. s)
    (sym c.in-Some.ensures.value) ((c.get_mut.follows.holds w).3 (search rules)) (ap Some c.in_err-remove-in-Some.ensures.err))

pub returns-clause-ok : goal.returns-clause-ok
returns-clause-ok c =
    let w = c.remove.new.self in
    slot_changed c.args.name.now c.args.slots.now (c.get_mut.follows.lender w) c.in-Some.slot.now w (λ s. Some (removed s))
    (sym c.in-Some.ensures.value) ((c.get_mut.follows.holds w).3 (search rules)) (ap Some c.in_ok-remove-in-Some.ensures.ok)
