use Rattle.std.proofs.Common.{List, ℕ, sym, subst}
use Rattle.pb_devices.specs.Contents.{IsSettled}
use Rattle.pb_gate_log.specs.Calls.{IsOpenedOrMade, OpensOrMakes}
use Rattle.pebble_cli.proofs.open_log.open_log.Goals as goal

pub open_or_create-requires : goal.open_or_create-requires
open_or_create-requires g c told = subst (λ (n : List ℕ). IsSettled (g.D.Disk.contents c.args.disk.now) n) (sym c.file.ensures) (c.requires told)

pub returns-in-Ok-clause-ok : goal.returns-in-Ok-clause-ok
returns-in-Ok-clause-ok g c told =
    subst (λ (n : List ℕ). IsOpenedOrMade n c.in-Ok.opened.1.items c.in-Ok.opened.0 (g.D.Disk.contents c.args.disk.now) (g.D.Disk.contents c.open_or_create.new.disk))
    c.file.ensures (c.in-Ok.ensures.ok told)

pub returns-in-Ok-clause-opens : goal.returns-in-Ok-clause-opens
returns-in-Ok-clause-opens g c told =
    subst (λ (n : List ℕ). OpensOrMakes n (g.D.Disk.contents c.args.disk.now) (g.D.Disk.contents c.open_or_create.new.disk)) c.file.ensures
    (c.open_or_create.ensures.opens told)

pub returns-in-Err-Disk-clause-opens : goal.returns-in-Err-Disk-clause-opens
returns-in-Err-Disk-clause-opens g c told =
    subst (λ (n : List ℕ). OpensOrMakes n (g.D.Disk.contents c.args.disk.now) (g.D.Disk.contents c.open_or_create.new.disk)) c.file.ensures
    (c.open_or_create.ensures.opens told)

pub returns-in-Err-clause-opens : goal.returns-in-Err-clause-opens
returns-in-Err-clause-opens g c told =
    subst (λ (n : List ℕ). OpensOrMakes n (g.D.Disk.contents c.args.disk.now) (g.D.Disk.contents c.open_or_create.new.disk)) c.file.ensures
    (c.open_or_create.ensures.opens told)
