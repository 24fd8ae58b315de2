use Rattle.std.proofs.Common.{◌≡◌, true, false, inl, inr, is_err, is_some, IsSome, ap, ◌∙◌, rules, arith}
use Rattle.pb_mem.specs.Named.{by_name}
use Rattle.pb_mem.specs.Calls.{with_want}
use Rattle.pb_mem.specs.Slots.{Slots, file_of, after_removal, happens}
use Rattle.std.specs.FinMap.{get}
use Rattle.pb_mem.proofs.SlotLemmas.{removed_slot, all_stay}
use Rattle.pb_mem.proofs.FolderLemmas.{always_ok, always_err, from_err, from_ok}
use Rattle.pb_mem.proofs.LeftLemmas.{same_slots, has_not_happened, none_removed, none_happened}
use Rattle.pb_mem.proofs.disk.MemDiskDisk.remove.Goals as goal

pub returns-then-is_err-2-clause-err : goal.returns-then-is_err-2-clause-err
returns-then-is_err-2-clause-err c =
    let failed : is_err c.remove_file.result ≡ true = first_of (search rules, grind arith) in
    rw (← c.self.view_is) (inr (all_stay (by_name (λ s. s) c.self.inside.slots.entries) (by_name (λ s. s) c.remove_file.new.slots.entries) c.args.file.now (from_err c.remove_file.result failed c.remove_file.ensures.err)))

pub returns-clause-ok : goal.returns-clause-ok
returns-clause-ok c =
    let done : is_err c.remove_file.result ≡ false = first_of (search rules, grind arith) in
    let there : IsSome (file_of (get (by_name (λ s. s) c.self.inside.slots.entries) c.args.file.now)) = first_of (search rules, grind arith) in
    rw (← c.self.view_is) (always_ok c.begin-begun.result (removed_slot (by_name (λ s. s) c.self.inside.slots.entries) (by_name (λ s. s) c.remove_file.new.slots.entries) c.args.file.now there (from_ok c.remove_file.result done c.remove_file.ensures.ok)))

pub returns-clause-err : goal.returns-clause-err
returns-clause-err c =
    let done : is_err c.remove_file.result ≡ false = first_of (search rules, grind arith) in
    let there : IsSome (file_of (get (by_name (λ s. s) c.self.inside.slots.entries) c.args.file.now)) = first_of (search rules, grind arith) in
    rw (← c.self.view_is) (always_err c.begin-begun.result (inl (removed_slot (by_name (λ s. s) c.self.inside.slots.entries) (by_name (λ s. s) c.remove_file.new.slots.entries) c.args.file.now there (from_ok c.remove_file.result done c.remove_file.ensures.ok))))

pub returns-then-is_none-clause-gone : goal.returns-then-is_none-clause-gone
returns-then-is_none-clause-gone c =
    let slots : Slots = by_name (λ s. s) c.self.inside.slots.entries in
    let none : is_some (file_of (get slots c.args.file.now)) ≡ false = first_of (search rules, grind arith) in
    rw (← c.self.view_is) (always_ok c.begin-begun.result (none_removed slots c.args.file.now none))

pub returns-then-is_none-clause-happened : goal.returns-then-is_none-clause-happened
returns-then-is_none-clause-happened c =
    let slots : Slots = by_name (λ s. s) c.self.inside.slots.entries in
    let none : is_some (file_of (get slots c.args.file.now)) ≡ false = first_of (search rules, grind arith) in
    rw (← c.self.view_is) (always_err c.begin-begun.result (inl (c.begin-begun.ensures.counts, none_happened c.self.inside.pick slots c.args.file.now none)))

pub returns-then-not-happens-clause-happened : goal.returns-then-not-happens-clause-happened
returns-then-not-happens-clause-happened c =
    let bars : happens c.self.inside.pick ≡ false = first_of (search rules, grind arith) in
    let slots : Slots = by_name (λ s. s) c.self.inside.slots.entries in
    rw (← c.self.view_is) (always_err c.begin-begun.result (inl (c.begin-begun.ensures.counts, has_not_happened c.self.inside.pick slots c.args.file.now (after_removal (get slots c.args.file.now)) bars)))

pub returns-then-is_err-2-clause-happened : goal.returns-then-is_err-2-clause-happened
returns-then-is_err-2-clause-happened c =
    let failed : is_err c.remove_file.result ≡ true = first_of (search rules, grind arith) in
    rw (← c.self.view_is) (inr (c.want.ensures ∙ ap with_want c.begin-begun.ensures.counts, same_slots (by_name (λ s. s) c.self.inside.slots.entries) (by_name (λ s. s) c.remove_file.new.slots.entries) c.args.file.now (from_err c.remove_file.result failed c.remove_file.ensures.err)))

pub returns-then-is_err-2-clause-wanted : goal.returns-then-is_err-2-clause-wanted
returns-then-is_err-2-clause-wanted c =
    let failed : is_err c.remove_file.result ≡ true = first_of (search rules, grind arith) in
    rw (← c.self.view_is) (λ _. same_slots (by_name (λ s. s) c.self.inside.slots.entries) (by_name (λ s. s) c.remove_file.new.slots.entries) c.args.file.now (from_err c.remove_file.result failed c.remove_file.ensures.err))
