use Rattle.std.proofs.Common.{◌≡◌, Option, Some, false, is_some, sym, ap, subst, ◌∙◌, rules, arith}
use Rattle.std.specs.BTreeMap as tree
use Rattle.pb_mem.specs.Named.{by_name}
use Rattle.pb_mem.specs.Slots.{SlotView, created, ChangesAt}
use Rattle.pb_mem.proofs.FolderLemmas.{slot_at, slot_same, slot_changed, none_slot, always_err}
use Rattle.pb_mem.proofs.folder.create_file.Goals as goal

pub returns-in_err-create_first-clause-err : goal.returns-in_err-create_first-clause-err
returns-in_err-create_first-clause-err c = always_err c.from_residual.result (slot_same c.args.name.now c.args.slots.now c.create_first.new.slots c.in_err-create_first.ensures.err)

pub returns-then-not-contains_key-clause-ok : goal.returns-then-not-contains_key-clause-ok
returns-then-not-contains_key-clause-ok c =
    let gone : is_some (tree.get_by_text c.args.slots.now c.args.name.now) ≡ false = first_of (search rules, grind arith) in
    subst (λ (o : Option SlotView). ChangesAt (by_name (λ s. s) c.args.slots.now.entries) (by_name (λ s. s) c.create_first.new.slots.entries) c.args.name.now (Some (created o)))
    (sym (slot_at c.args.slots.now c.args.name.now ∙ none_slot (tree.get_by_text c.args.slots.now c.args.name.now) gone)) c.in_ok-create_first.ensures.ok

pub returns-in_err-create-in-Some-clause-err : goal.returns-in_err-create-in-Some-clause-err
returns-in_err-create-in-Some-clause-err c =
    let w = c.create.new.self in
    always_err c.from_residual-in_err-create-in-Some.result
    (slot_changed c.args.name.now c.args.slots.now (c.get_mut.follows.lender w) c.in-Some.slot.now w (λ s. s)
    (sym c.in-Some.ensures.value) ((c.get_mut.follows.holds w).3 (search rules)) (ap Some c.in_err-create-in-Some.ensures.err))

pub returns-clause-ok : goal.returns-clause-ok
returns-clause-ok c =
    let w = c.create.new.self in
    slot_changed c.args.name.now c.args.slots.now (c.get_mut.follows.lender w) c.in-Some.slot.now w (λ s. Some (created s))
    (sym c.in-Some.ensures.value) ((c.get_mut.follows.holds w).3 (search rules)) (ap Some c.in_ok-create-in-Some.ensures.ok)
