use Rattle.std.proofs.Common.{Err, ap, sym, subst}
use Rattle.pb_gate_log.specs.Payloads.{payloads_in}
use Rattle.pebble_cli.specs.Folder.{log_name}
use Rattle.pebble_cli.specs.StoreStates.{Finds, map_in}
use Rattle.pb_reply.specs.declared.refusal.Refusal.{Refusal}
use Rattle.pb_reply.specs.declared.reply.Reply.TheVariants.{Refused}
use Rattle.pebble_cli.specs.declared.step.Step.TheVariants.{Open}
use Rattle.pebble_cli.specs.declared.store.Store.TheVariants.{Closed}
use Rattle.pebble_cli.proofs.StoreFacts.{found_refused}
use Rattle.pebble_cli.proofs.store.Store.open.Goals as goal

pub returns-in-Err-clause-found : goal.returns-in-Err-clause-found
returns-in-Err-clause-found g c = λ told.
    subst (λ (r : Refusal). Finds (payloads_in ((g.D.Disk.contents c.args.disk.now).seen log_name)) Open (Refused r) (map_in Closed)) (sym c.refusal.ensures)
    (found_refused (payloads_in ((g.D.Disk.contents c.args.disk.now).seen log_name)) c.in-Err.error (map_in Closed)
    (λ is n l make. c.in-Err.ensures.damaged told (ap Err is) n l make))
