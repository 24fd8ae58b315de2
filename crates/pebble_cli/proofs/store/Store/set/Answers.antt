use Rattle.std.proofs.Common.{ℕ, ◌+◌, ◌⊎◌, ◌∙◌, Err, ap, inr, sym, subst}
use Rattle.pb_keys.specs.Map.{Map}
use Rattle.pb_gate_log.specs.Payloads.{payloads_in}
use Rattle.pebble_cli.specs.Folder.{HasFrom, Replays}
use Rattle.pebble_cli.specs.StoreStates.{IsSetBy}
use Rattle.pebble_cli.specs.declared.step.Step.TheVariants.{Set}
use Rattle.pebble_cli.specs.declared.store.Store.{Store}
use Rattle.pebble_cli.proofs.LoggedFacts.{open_image}
use Rattle.pebble_cli.proofs.store.Store.set.Goals as goal

pub returns-in-Ok-clause-crash : goal.returns-in-Ok-clause-crash
returns-in-Ok-clause-crash g c = λ told image left.
    let held = c.in-Open.opened in
    let new = c.set.new.self in
    let makes : Replays (payloads_in image) new.count new.map = open_image new (g.D.Disk.contents c.set.new.disk) image (c.in-Ok.ensures.kept told) left in
    let counted : Replays (payloads_in image) (held.count + 1) new.map = subst (λ (n : ℕ). Replays (payloads_in image) n new.map) c.in-Ok.ensures.ok.0 makes in
    subst (λ (s : Store). HasFrom (g.D.Disk.contents c.args.disk.now) image ⊎ IsSetBy s (Set c.args.key c.args.value) image) (sym c.in-Open.is)
    (inr (inr (subst (λ (m : Map). Replays (payloads_in image) (held.count + 1) m) c.in-Ok.ensures.ok.1 counted)))

pub returns-in-Err-DiskFault-clause-crash : goal.returns-in-Err-DiskFault-clause-crash
returns-in-Err-DiskFault-clause-crash g c = λ told image left.
    subst (λ (s : Store). HasFrom (g.D.Disk.contents c.args.disk.now) image ⊎ IsSetBy s (Set c.args.key c.args.value) image) (sym c.in-Open.is)
    (inr (c.set.ensures.crash told image (c.in-Err-DiskFault.is ∙ ap Err c.in-Err-DiskFault.field-0-is) left))
