use Rattle.std.proofs.Common.{◌≡◌, Some, true, false, inl, inr, is_err, ap, ◌∙◌, rules, arith}
use Rattle.pb_mem.specs.Named.{by_name}
use Rattle.pb_mem.specs.Calls.{with_want}
use Rattle.pb_mem.specs.Slots.{Slots, created, happens}
use Rattle.std.specs.FinMap.{get}
use Rattle.pb_mem.proofs.SlotLemmas.{created_slot, all_stay}
use Rattle.pb_mem.proofs.FolderLemmas.{always_ok, always_err, from_err, from_ok}
use Rattle.pb_mem.proofs.LeftLemmas.{same_slots, has_not_happened}
use Rattle.pb_mem.proofs.disk.MemDiskDisk.create.Goals as goal

pub returns-then-is_err-2-clause-err : goal.returns-then-is_err-2-clause-err
returns-then-is_err-2-clause-err c =
    let failed : is_err c.create_file.result ≡ true = first_of (search rules, grind arith) in
    rw (← c.self.view_is) (inr (all_stay (by_name (λ s. s) c.self.inside.slots.entries) (by_name (λ s. s) c.create_file.new.slots.entries) c.args.file.now (from_err c.create_file.result failed c.create_file.ensures.err)))

pub returns-clause-ok : goal.returns-clause-ok
returns-clause-ok c =
    let done : is_err c.create_file.result ≡ false = first_of (search rules, grind arith) in
    rw (← c.self.view_is) (always_ok c.begin-begun.result (created_slot (by_name (λ s. s) c.self.inside.slots.entries) (by_name (λ s. s) c.create_file.new.slots.entries) c.args.file.now (from_ok c.create_file.result done c.create_file.ensures.ok)))

pub returns-clause-err : goal.returns-clause-err
returns-clause-err c =
    let done : is_err c.create_file.result ≡ false = first_of (search rules, grind arith) in
    rw (← c.self.view_is) (always_err c.begin-begun.result (inl (created_slot (by_name (λ s. s) c.self.inside.slots.entries) (by_name (λ s. s) c.create_file.new.slots.entries) c.args.file.now (from_ok c.create_file.result done c.create_file.ensures.ok))))

pub returns-then-is_err-clause-happened : goal.returns-then-is_err-clause-happened
returns-then-is_err-clause-happened c =
    let bars : happens c.self.inside.pick ≡ false = first_of (search rules, grind arith) in
    let slots : Slots = by_name (λ s. s) c.self.inside.slots.entries in
    rw (← c.self.view_is) (always_err c.begin-begun.result (inl (c.begin-begun.ensures.counts, has_not_happened c.self.inside.pick slots c.args.file.now (Some (created (get slots c.args.file.now))) bars)))

pub returns-then-is_err-2-clause-happened : goal.returns-then-is_err-2-clause-happened
returns-then-is_err-2-clause-happened c =
    let failed : is_err c.create_file.result ≡ true = first_of (search rules, grind arith) in
    rw (← c.self.view_is) (inr (c.want.ensures ∙ ap with_want c.begin-begun.ensures.counts, same_slots (by_name (λ s. s) c.self.inside.slots.entries) (by_name (λ s. s) c.create_file.new.slots.entries) c.args.file.now (from_err c.create_file.result failed c.create_file.ensures.err)))

pub returns-then-is_err-2-clause-wanted : goal.returns-then-is_err-2-clause-wanted
returns-then-is_err-2-clause-wanted c =
    let failed : is_err c.create_file.result ≡ true = first_of (search rules, grind arith) in
    rw (← c.self.view_is) (λ _. same_slots (by_name (λ s. s) c.self.inside.slots.entries) (by_name (λ s. s) c.create_file.new.slots.entries) c.args.file.now (from_err c.create_file.result failed c.create_file.ensures.err))
