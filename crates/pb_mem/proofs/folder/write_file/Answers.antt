use Rattle.std.proofs.Common.{Option, Some, sym, ap, subst, ◌∙◌, rules}
use Rattle.pb_devices.specs.Reads.{IsWithin}
use Rattle.pb_mem.specs.Files.{written}
use Rattle.pb_mem.specs.Slots.{SlotView, file_of, seen_of, durable_of, with_file}
use Rattle.pb_mem.proofs.FolderLemmas.{slot_at, slot_changed, always_err}
use Rattle.pb_mem.proofs.folder.write_file.Goals as goal

pub unreachable-requires : goal.unreachable-requires
unreachable-requires c =
    subst (λ (s : Option SlotView). IsWithin c.args.at (seen_of (file_of s))) (slot_at c.args.slots.now c.args.name.now ∙ sym c.in-None.ensures.value) c.requires

pub write-requires : goal.write-requires
write-requires c =
    subst (λ (s : Option SlotView). IsWithin c.args.at (seen_of (file_of s))) (slot_at c.args.slots.now c.args.name.now ∙ sym c.in-Some.ensures.value) c.requires

pub returns-clause-ok : goal.returns-clause-ok
returns-clause-ok c =
    let w = c.write.new.self in
    slot_changed c.args.name.now c.args.slots.now (c.get_mut.follows.lender w) c.in-Some.slot.now w (with_file (λ f. written f c.args.at c.args.bytes.now))
    (sym c.in-Some.ensures.value) ((c.get_mut.follows.holds w).3 (search rules)) (ap Some c.in_ok-write-in-Some.ensures.ok)

pub returns-clause-durable : goal.returns-clause-durable
returns-clause-durable c =
    let w = c.write.new.self in
    let n = c.get_mut.follows.lender w in
    ap (λ (s : Option SlotView). durable_of (file_of s)) (slot_at n c.args.name.now ∙ ((c.get_mut.follows.holds w).3 (search rules)).1)
    ∙ c.write.ensures.durable
    ∙ ap (λ (s : Option SlotView). durable_of (file_of s)) (sym (slot_at c.args.slots.now c.args.name.now ∙ sym c.in-Some.ensures.value))

pub returns-in_err-write-in-Some-clause-durable : goal.returns-in_err-write-in-Some-clause-durable
returns-in_err-write-in-Some-clause-durable c =
    let w = c.write.new.self in
    let n = c.get_mut.follows.lender w in
    ap (λ (s : Option SlotView). durable_of (file_of s)) (slot_at n c.args.name.now ∙ ((c.get_mut.follows.holds w).3 (search rules)).1)
    ∙ c.write.ensures.durable
    ∙ ap (λ (s : Option SlotView). durable_of (file_of s)) (sym (slot_at c.args.slots.now c.args.name.now ∙ sym c.in-Some.ensures.value))

pub returns-in_err-write-in-Some-clause-err : goal.returns-in_err-write-in-Some-clause-err
returns-in_err-write-in-Some-clause-err c =
    let w = c.write.new.self in
    always_err c.from_residual.result
    (slot_changed c.args.name.now c.args.slots.now (c.get_mut.follows.lender w) c.in-Some.slot.now w (λ s. s)
    (sym c.in-Some.ensures.value) ((c.get_mut.follows.holds w).3 (search rules)) (ap Some c.in_err-write-in-Some.ensures.err))
