use Rattle.std.proofs.Common.{◌≡◌, true, false, inr, is_err, length, subst, sym, ap, ◌∙◌, rules, arith}
use Rattle.pb_mem.specs.Named.{by_name}
use Rattle.pb_mem.specs.Slots.{file_of}
use Rattle.std.specs.FinMap.{get}
use Rattle.pb_devices.specs.Reads.{IsWithin}
use Rattle.pb_mem.specs.Calls.{with_want}
use Rattle.pb_mem.specs.Disk.{DiskView}
use Rattle.pb_mem.specs.Slots.{seen_of}
use Rattle.pb_mem.proofs.SlotLemmas.{written_slot, over_slot, scribbled_slot, scribble_slot, unwritten}
use Rattle.pb_mem.proofs.FolderLemmas.{from_err, from_ok}
use Rattle.pb_mem.proofs.LeftLemmas.{same_slots, reads_scribbled}
use Rattle.pb_mem.proofs.disk.MemDiskDisk.write_at.Goals as goal

pub returns-then-is_err-2-clause-written : goal.returns-then-is_err-2-clause-written
returns-then-is_err-2-clause-written c =
    let failed : is_err c.scribble_file.result ≡ true = first_of (search rules, grind arith) in
    rw (← c.self.view_is) (unwritten (by_name (λ s. s) c.self.inside.slots.entries) (by_name (λ s. s) c.scribble_file.new.slots.entries) c.args.file.now c.args.at (length c.args.bytes.now) (from_err c.scribble_file.result failed c.scribble_file.ensures.err))

pub returns-then-is_err-clause-written : goal.returns-then-is_err-clause-written
returns-then-is_err-clause-written c =
    let done : is_err c.scribble_file.result ≡ false = first_of (search rules, grind arith) in
    let within : IsWithin c.args.at (seen_of (file_of (get (by_name (λ s. s) c.self.inside.slots.entries) c.args.file.now))) =
    subst (λ (d : DiskView). IsWithin c.args.at (seen_of (file_of (get d.slots c.args.file.now)))) (sym c.self.view_is) c.requires in
    rw (← c.self.view_is) (scribbled_slot c.self.inside.pick (by_name (λ s. s) c.self.inside.slots.entries) (by_name (λ s. s) c.scribble_file.new.slots.entries) c.args.file.now c.args.at c.args.bytes.now within (from_ok c.scribble_file.result done c.scribble_file.ensures.ok) c.scribble_file.ensures.durable)

pub returns-then-is_err-clause-err : goal.returns-then-is_err-clause-err
returns-then-is_err-clause-err c =
    let done : is_err c.scribble_file.result ≡ false = first_of (search rules, grind arith) in
    let within : IsWithin c.args.at (seen_of (file_of (get (by_name (λ s. s) c.self.inside.slots.entries) c.args.file.now))) =
    subst (λ (d : DiskView). IsWithin c.args.at (seen_of (file_of (get d.slots c.args.file.now)))) (sym c.self.view_is) c.requires in
    rw (← c.self.view_is) (scribble_slot c.self.inside.pick (by_name (λ s. s) c.self.inside.slots.entries) (by_name (λ s. s) c.scribble_file.new.slots.entries) c.args.file.now c.args.at c.args.bytes.now within (from_ok c.scribble_file.result done c.scribble_file.ensures.ok))

pub returns-then-is_err-3-clause-written : goal.returns-then-is_err-3-clause-written
returns-then-is_err-3-clause-written c =
    let failed : is_err c.write_file.result ≡ true = first_of (search rules, grind arith) in
    rw (← c.self.view_is) (unwritten (by_name (λ s. s) c.self.inside.slots.entries) (by_name (λ s. s) c.write_file.new.slots.entries) c.args.file.now c.args.at (length c.args.bytes.now) (from_err c.write_file.result failed c.write_file.ensures.err))

pub returns-clause-written : goal.returns-clause-written
returns-clause-written c =
    let done : is_err c.write_file.result ≡ false = first_of (search rules, grind arith) in
    let within : IsWithin c.args.at (seen_of (file_of (get (by_name (λ s. s) c.self.inside.slots.entries) c.args.file.now))) =
    subst (λ (d : DiskView). IsWithin c.args.at (seen_of (file_of (get d.slots c.args.file.now)))) (sym c.self.view_is) c.requires in
    rw (← c.self.view_is) (written_slot (by_name (λ s. s) c.self.inside.slots.entries) (by_name (λ s. s) c.write_file.new.slots.entries) c.args.file.now c.args.at c.args.bytes.now within (from_ok c.write_file.result done c.write_file.ensures.ok) c.write_file.ensures.durable)

pub returns-clause-ok : goal.returns-clause-ok
returns-clause-ok c =
    let done : is_err c.write_file.result ≡ false = first_of (search rules, grind arith) in
    rw (← c.self.view_is) (over_slot (by_name (λ s. s) c.self.inside.slots.entries) (by_name (λ s. s) c.write_file.new.slots.entries) c.args.file.now c.args.at c.args.bytes.now (from_ok c.write_file.result done c.write_file.ensures.ok))

pub returns-then-is_err-2-clause-left : goal.returns-then-is_err-2-clause-left
returns-then-is_err-2-clause-left c =
    let failed : is_err c.scribble_file.result ≡ true = first_of (search rules, grind arith) in
    rw (← c.self.view_is) (inr (c.want.ensures ∙ ap with_want c.begin.ensures.counts, same_slots (by_name (λ s. s) c.self.inside.slots.entries) (by_name (λ s. s) c.scribble_file.new.slots.entries) c.args.file.now (from_err c.scribble_file.result failed c.scribble_file.ensures.err)))

pub returns-then-is_err-2-clause-wanted : goal.returns-then-is_err-2-clause-wanted
returns-then-is_err-2-clause-wanted c =
    let failed : is_err c.scribble_file.result ≡ true = first_of (search rules, grind arith) in
    rw (← c.self.view_is) (λ _. same_slots (by_name (λ s. s) c.self.inside.slots.entries) (by_name (λ s. s) c.scribble_file.new.slots.entries) c.args.file.now (from_err c.scribble_file.result failed c.scribble_file.ensures.err))

pub returns-then-is_err-clause-reads : goal.returns-then-is_err-clause-reads
returns-then-is_err-clause-reads c =
    let done : is_err c.scribble_file.result ≡ false = first_of (search rules, grind arith) in
    rw (← c.self.view_is) (inr (reads_scribbled c.self.inside.pick (by_name (λ s. s) c.self.inside.slots.entries) (by_name (λ s. s) c.scribble_file.new.slots.entries) c.args.file.now c.args.at c.args.bytes.now (from_ok c.scribble_file.result done c.scribble_file.ensures.ok)))

pub returns-then-is_err-3-clause-left : goal.returns-then-is_err-3-clause-left
returns-then-is_err-3-clause-left c =
    let failed : is_err c.write_file.result ≡ true = first_of (search rules, grind arith) in
    rw (← c.self.view_is) (inr (c.want-then-is_err-3.ensures ∙ ap with_want c.begin.ensures.counts, same_slots (by_name (λ s. s) c.self.inside.slots.entries) (by_name (λ s. s) c.write_file.new.slots.entries) c.args.file.now (from_err c.write_file.result failed c.write_file.ensures.err)))

pub returns-then-is_err-3-clause-wanted : goal.returns-then-is_err-3-clause-wanted
returns-then-is_err-3-clause-wanted c =
    let failed : is_err c.write_file.result ≡ true = first_of (search rules, grind arith) in
    rw (← c.self.view_is) (λ _. same_slots (by_name (λ s. s) c.self.inside.slots.entries) (by_name (λ s. s) c.write_file.new.slots.entries) c.args.file.now (from_err c.write_file.result failed c.write_file.ensures.err))
