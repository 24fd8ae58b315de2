use Rattle.std.proofs.Common.{sym, ap, ◌∙◌}
use Rattle.pb_keys.specs.Span.{holds_key}
use Rattle.pb_rows.specs.Verdict.{verdict}
use Rattle.pb_version.specs.Version.{TableView}
use Rattle.pb_version.specs.declared.table.Table.TheInside.{Inside}
use Rattle.pb_read.specs.declared.fault.ReadFault.TheVariants as read_fault
use Rattle.pb_read.proofs.Reading.{same_fault, silent_outside}
use Rattle.pb_read.proofs.table.ask.Goals as goal

pub returns-then-not-contains-clause-found : goal.returns-then-not-contains-clause-found
returns-then-not-contains-clause-found g c disk_tells bucket_tells layer has =
    let asked = c.contains.ensures ∙ ap (λ (t : Inside). holds_key t.view.bounds c.args.key.now) c.table-inside.view_is
    ∙ ap (λ (t : TableView). holds_key t.view.bounds c.args.key.now) c.table.view_is in
    silent_outside c.args.table.now layer c.args.key.now c.requires.1 (sym asked ∙ c.if-not-contains.true)

pub returns-in-Ok-answer_of-clause-found : goal.returns-in-Ok-answer_of-clause-found
returns-in-Ok-answer_of-clause-found g c disk_tells bucket_tells layer has =
    c.in-Ok-answer_of.ensures ∙ c.get.ensures ∙ ap (λ l. verdict l c.args.key.now) (c.in-Ok.ensures.shown disk_tells bucket_tells layer has)

pub returns-clause-damaged : goal.returns-clause-damaged
returns-clause-damaged g c disk_tells bucket_tells name is =
    let asked = c.contains.ensures ∙ ap (λ (t : Inside). holds_key t.view.bounds c.args.key.now) c.table-inside.view_is
    ∙ ap (λ (t : TableView). holds_key t.view.bounds c.args.key.now) c.table.view_is in
    (sym asked ∙ c.if-not-contains.false, c.in-Err.ensures.damaged disk_tells bucket_tells name (same_fault c.in-Err.fault (read_fault.Damaged name) is))

pub returns-clause-missing : goal.returns-clause-missing
returns-clause-missing g c told name is =
    let asked = c.contains.ensures ∙ ap (λ (t : Inside). holds_key t.view.bounds c.args.key.now) c.table-inside.view_is
    ∙ ap (λ (t : TableView). holds_key t.view.bounds c.args.key.now) c.table.view_is in
    (sym asked ∙ c.if-not-contains.false, c.in-Err.ensures.missing told name (same_fault c.in-Err.fault (read_fault.Missing name) is))
