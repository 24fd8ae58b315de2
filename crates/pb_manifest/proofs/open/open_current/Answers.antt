use Rattle.std.proofs.Common.{List, ℕ, subst}
use Rattle.pb_manifest.specs.Steps.{OpensIfThere}
use Rattle.pb_manifest.proofs.Logs.{opened_there, stays_there}
use Rattle.pb_names.specs.Spelling.{current_name}
use Rattle.pb_manifest.proofs.open.open_current.Goals as goal

pub returns-in_err-is_there-clause-opens : goal.returns-in_err-is_there-clause-opens
returns-in_err-is_there-clause-opens g c = λ told.
    stays_there (g.D.Disk.contents c.args.disk.now) (g.D.Disk.contents c.is_there.new.disk) current_name (c.requires told)
    (c.in_err-is_there.ensures.stays told)

pub returns-in_err-log-clause-opens : goal.returns-in_err-log-clause-opens
returns-in_err-log-clause-opens g c = λ told.
    let old = g.D.Disk.contents c.args.disk.now in
    let new = g.D.Disk.contents c.opened.new.disk in
    subst (λ (n : List ℕ). OpensIfThere n old new) c.current-name.ensures
    (opened_there old (g.D.Disk.contents c.is_there.new.disk) new c.current-name.result
    (c.in_ok-is_there.ensures.yes told c.if-not-branch.false)
    (c.in_ok-is_there.ensures.stays told) (c.opened.ensures.opens told))

pub returns-clause-opens : goal.returns-clause-opens
returns-clause-opens g c = λ told.
    let old = g.D.Disk.contents c.args.disk.now in
    let new = g.D.Disk.contents c.opened.new.disk in
    subst (λ (n : List ℕ). OpensIfThere n old new) c.current-name.ensures
    (opened_there old (g.D.Disk.contents c.is_there.new.disk) new c.current-name.result
    (c.in_ok-is_there.ensures.yes told c.if-not-branch.false)
    (c.in_ok-is_there.ensures.stays told) (c.opened.ensures.opens told))
