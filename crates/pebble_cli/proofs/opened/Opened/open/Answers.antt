use Rattle.std.proofs.Common.{Err, refl, ◌∙◌, sym, ap, subst, ℕ, List}
use Rattle.pb_devices.proofs.Images.{stays_image}
use Rattle.pb_gate_log.specs.Payloads.{payloads_in}
use Rattle.pebble_cli.specs.Folder.{log_name, Replays}
use Rattle.pebble_cli.proofs.StoreFacts.{refused_same}
use Rattle.pebble_cli.specs.declared.store_error.StoreError.TheVariants.{Damaged}
use Rattle.pebble_cli.proofs.opened.Opened.open.Goals as goal

pub returns-in_err-barrier-clause-crash : goal.returns-in_err-barrier-clause-crash
returns-in_err-barrier-clause-crash g c = λ told image left.
    (image, stays_image (g.D.Disk.contents c.args.disk.now) (g.D.Disk.contents c.barrier.new.self) log_name image (c.in_err-barrier.ensures.err told log_name) left, refl)

pub open_log-requires : goal.open_log-requires
open_log-requires g c = λ told. (c.in_ok-barrier.ensures.ok told).settled log_name

pub returns-clause-damaged : goal.returns-clause-damaged
returns-clause-damaged g c = λ told is n m makes.
    c.in-Err.ensures.damaged (ap Err (refused_same c.in-Err.refusal Damaged is)) n m
    (subst (λ (l : List (List ℕ)). Replays l n m)
    (ap payloads_in (sym ((c.in_ok-barrier.ensures.ok told).seen log_name)) ∙ sym (c.in_ok-log.ensures.ok told).had ∙ sym c.deref.ensures.value) makes)
