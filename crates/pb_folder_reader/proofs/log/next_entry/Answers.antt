use Rattle.std.proofs.Common.{◌≡◌, ◌≤◌, Option, IfSome, arith, sym, ap, ◌∙◌, subst}
use Rattle.pb_payloads.specs.Log.{LogEntry, IsEntry, entry_spelling}
use Rattle.pb_payloads.proofs.LoggedLaws.{one_entry}
use Rattle.pb_wal.specs.Changes.{entry_of}
use Rattle.pb_wal.specs.declared.entry.Entry.{Entry}
use Rattle.pb_folder_reader.proofs.log.next_entry.Goals as goal

pub returns-then-entry-last-clause-none : goal.returns-then-entry-last-clause-none
returns-then-entry-last-clause-none c = λ entry is.
    let payload = c.args.payload.now in
    let found : Entry = c.in-Some.entry in
    let spelled = subst (λ (o : Option Entry). IfSome o (λ e. payload ≡ entry_spelling (entry_of e))) c.in-Some.is c.in_ok-entry.ensures.some in
    let in_form = subst (λ (o : Option Entry). IfSome o (λ e. IsEntry (entry_of e))) c.in-Some.is c.in_ok-entry.ensures.in_form in
    let same = one_entry entry (entry_of found) is.in_form in_form (sym is.spelled ∙ spelled) in
    let rise = is.rise in
    let low : found.count ≤ c.args.last = c.if-entry-last.true in
    absurd (omega (arith, ap (λ (e : LogEntry). e.count) same))
