use Rattle.std.proofs.Common.{ℕ, List, sym, ap, ◌∙◌, subst, Err}
use Rattle.pb_catalog.specs.Found.{IsOfAnother}
use Rattle.pb_catalog.proofs.Results.{same_wrong}
use Rattle.pb_catalog.proofs.catalog.Catalog.open.Goals as goal
use Rattle.pb_gate_log.proofs.FilePayloads.{has_payloads}

pub returns-clause-wrong : goal.returns-clause-wrong
returns-clause-wrong g c told other is =
    let opened = c.in_ok-log.ensures.ok told in
    let list = has_payloads c.in_ok-log.payloads.items ((g.D.Disk.contents c.args.disk.now).seen c.args.file) opened.had in
    subst (λ (l : List (List ℕ)). IsOfAnother c.args.id other l) (c.deref.ensures.value ∙ sym list)
    (c.read_entries.ensures.wrong other (c.in-Err.is ∙ ap Err (same_wrong c.in-Err.error other is)))
