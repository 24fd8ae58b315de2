use Rattle.std.proofs.Common.{Result, sym, subst}
use Rattle.std.proofs.lemmas.Result.{err_from_is_err_and}
use Rattle.pb_gate_log.specs.Calls.{Appends}
use Rattle.pebble_cli.proofs.LoggedFacts.{appends_err, appends_nothing, appends_ok}
use Rattle.pebble_cli.specs.declared.store_error.StoreError.{StoreError}
use Rattle.pebble_cli.specs.declared.store_error.StoreError.TheVariants.{NoMemory}
use Rattle.pebble_cli.proofs.pairs.Pairs.set_logged.Goals as goal

pub returns-then-not-settle-clause-appends : goal.returns-then-not-settle-clause-appends
returns-then-not-settle-clause-appends g c told = appends_nothing c.args.log.now c.args.payload.now (g.D.Disk.contents c.args.disk.now) NoMemory

pub returns-in_err-append-clause-appends : goal.returns-in_err-append-clause-appends
returns-in_err-append-clause-appends g c told =
    let old = g.D.Disk.contents c.args.disk.now in
    let new = g.D.Disk.contents c.append.new.disk in
    let p = err_from_is_err_and c.from_residual.result c.from_residual.ensures.1 in
    subst (λ (r : Result (Unit {0}) StoreError). Appends c.args.log.now c.append.new.self c.args.payload.now old new r) (sym p.1)
    (appends_err c.args.log.now c.append.new.self c.args.payload.now old new c.in_err-append.field-0.0 p.0 (c.in_err-append.ensures.appends told))

pub returns-clause-appends : goal.returns-clause-appends
returns-clause-appends g c told =
    appends_ok c.args.log.now c.append.new.self c.args.payload.now (g.D.Disk.contents c.args.disk.now) (g.D.Disk.contents c.append.new.disk) c.in_ok-append.field-0 tt
    (c.in_ok-append.ensures.appends told)
