use Rattle.std.proofs.Common.{◌≡◌, ℕ, List, Some, None, string_bytes, ap, subst, ◌∙◌}
use Rattle.pb_mem.specs.Named.{by_name}
use Rattle.pb_mem.specs.Slots.{SlotView, created, ChangesAt}
use Rattle.pb_mem.proofs.NamedLemmas.{get-updated}
use Rattle.pb_mem.proofs.folder.create_first.Goals as goal

pub returns-clause-ok : goal.returns-clause-ok
returns-clause-ok c =
    let slot : c.create.new.self ≡ created None = c.in_ok-create.ensures.ok ∙ ap (λ (s : SlotView). created (Some s)) c.new-slot.ensures in
    let changes : ChangesAt (by_name (λ s. s) c.args.slots.now.entries) (by_name (λ s. s) c.insert.new.self.entries) (string_bytes c.in_ok-name.name) (Some c.create.new.self) =
    get-updated (λ s. s) (string_bytes c.in_ok-name.name) c.args.slots.now c.insert.new.self (Some c.create.new.self) c.in_ok-insert.ensures.updates in
    subst (λ (name : List ℕ). ChangesAt (by_name (λ s. s) c.args.slots.now.entries) (by_name (λ s. s) c.insert.new.self.entries) name (Some (created None))) c.in_ok-name.ensures.ok
    (subst (λ (s : SlotView). ChangesAt (by_name (λ s. s) c.args.slots.now.entries) (by_name (λ s. s) c.insert.new.self.entries) (string_bytes c.in_ok-name.name) (Some s)) slot changes)
