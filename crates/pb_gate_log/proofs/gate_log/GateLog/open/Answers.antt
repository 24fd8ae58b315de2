use Rattle.std.proofs.Common.{◌≡◌, ℕ, List, Some, sym, ap, ◌∙◌, subst}
use Rattle.pb_devices.specs.Contents.{IsSettled}
use Rattle.pb_gate_log.specs.Calls.{IsOpened, Opens}
use Rattle.pb_gate_log.specs.Steps.{EndsAt}
use Rattle.pb_gate_log.proofs.LogStates.{log_at}
use Rattle.pb_gate_log.proofs.OpenStates.{is_opened, is_there, opens_read, opens_shut}
use Rattle.pb_gate_log.proofs.gate_log.GateLog.open.Goals as goal

pub returns-in_err-bytes-clause-opens : goal.returns-in_err-bytes-clause-opens
returns-in_err-bytes-clause-opens g c told =
    opens_read c.args.file (g.D.Disk.contents c.args.disk.now) (g.D.Disk.contents c.read_whole.new.disk) (c.requires.settled told) (c.in_err-bytes.ensures.kept told)

pub returns-in_err-bytes-clause-stays : goal.returns-in_err-bytes-clause-stays
returns-in_err-bytes-clause-stays g c told memory = c.in_err-bytes.ensures.kept told

pub returns-in_default-clause-opens : goal.returns-in_default-clause-opens
returns-in_default-clause-opens g c told =
    opens_read c.args.file (g.D.Disk.contents c.args.disk.now) (g.D.Disk.contents c.read_whole.new.disk) (c.requires.settled told) (c.in_ok-bytes.ensures.kept told)

pub returns-in_default-clause-stays : goal.returns-in_default-clause-stays
returns-in_default-clause-stays g c told memory = c.in_ok-bytes.ensures.kept told

pub returns-then-gate-ge-PLACES-clause-opens : goal.returns-then-gate-ge-PLACES-clause-opens
returns-then-gate-ge-PLACES-clause-opens g c told =
    opens_read c.args.file (g.D.Disk.contents c.args.disk.now) (g.D.Disk.contents c.read_whole.new.disk) (c.requires.settled told) (c.in_ok-bytes.ensures.kept told)

pub returns-then-gate-ge-PLACES-clause-stays : goal.returns-then-gate-ge-PLACES-clause-stays
returns-then-gate-ge-PLACES-clause-stays g c told memory = c.in_ok-bytes.ensures.kept told

pub returns-in_default-close-clause-opens : goal.returns-in_default-close-clause-opens
returns-in_default-close-clause-opens g c told =
    let name = c.as_str-name.result.now in
    let same : name ≡ c.args.file = c.as_str-name.ensures.value in
    let old = g.D.Disk.contents c.args.disk.now in
    let new = g.D.Disk.contents c.close.new.disk in
    let start = is_there (old.seen c.args.file) (c.requires.there told) in
    let seen : old.seen name ≡ Some start.0 = ap (λ (n : List ℕ). old.seen n) same ∙ start.1 in
    let read = c.in_ok-bytes.ensures.bytes told start.0 seen in
    let ends = subst (EndsAt c.in-Ok.gate c.in-Ok.payloads.items) (c.deref.ensures.value ∙ read) c.in-Ok.ensures in
    let ends_here = subst (EndsAt c.in-Ok.gate c.in-Ok.payloads.items) (c.deref.ensures.value ∙ sym c.deref-2.ensures.value) c.in-Ok.ensures in
    subst (λ (n : List ℕ). Opens n old new) same
    (opens_shut name old (g.D.Disk.contents c.read_whole.new.disk) (subst (λ (n : List ℕ). IsSettled old n) (sym same) (c.requires.settled told)) (c.in_ok-bytes.ensures.kept told)
    start.0 seen c.in-Ok.gate c.in-Ok.payloads.items ends new
    (λ image left. c.in_default-close.ensures.crash told c.in-Ok.payloads.items image ends_here left) (c.in_default-close.ensures.others told))

pub returns-clause-ok : goal.returns-clause-ok
returns-clause-ok g c told =
    let name = c.as_str-name.result.now in
    let same : name ≡ c.args.file = c.as_str-name.ensures.value in
    let old = g.D.Disk.contents c.args.disk.now in
    let new = g.D.Disk.contents c.close.new.disk in
    let start = is_there (old.seen c.args.file) (c.requires.there told) in
    let seen : old.seen name ≡ Some start.0 = ap (λ (n : List ℕ). old.seen n) same ∙ start.1 in
    let read = c.in_ok-bytes.ensures.bytes told start.0 seen in
    let ends = subst (EndsAt c.in-Ok.gate c.in-Ok.payloads.items) (c.deref.ensures.value ∙ read) c.in-Ok.ensures in
    let ends_here = subst (EndsAt c.in-Ok.gate c.in-Ok.payloads.items) (c.deref.ensures.value ∙ sym c.deref-2.ensures.value) c.in-Ok.ensures in
    subst (λ (n : List ℕ). IsOpened n c.in-Ok.payloads.items (log_at n c.in-Ok.gate c.in-Ok-close.len) old new) same
    (is_opened name old (g.D.Disk.contents c.read_whole.new.disk) (subst (λ (n : List ℕ). IsSettled old n) (sym same) (c.requires.settled told)) (c.in_ok-bytes.ensures.kept told)
    start.0 seen c.in-Ok.gate c.in-Ok.payloads.items ends new c.in-Ok-close.len (c.in-Ok-close.ensures.ok told c.in-Ok.payloads.items ends_here)
    (c.in-Ok-close.ensures.earlier told))

pub returns-clause-opens : goal.returns-clause-opens
returns-clause-opens g c told =
    let name = c.as_str-name.result.now in
    let same : name ≡ c.args.file = c.as_str-name.ensures.value in
    let old = g.D.Disk.contents c.args.disk.now in
    let new = g.D.Disk.contents c.close.new.disk in
    let start = is_there (old.seen c.args.file) (c.requires.there told) in
    let seen : old.seen name ≡ Some start.0 = ap (λ (n : List ℕ). old.seen n) same ∙ start.1 in
    let read = c.in_ok-bytes.ensures.bytes told start.0 seen in
    let ends = subst (EndsAt c.in-Ok.gate c.in-Ok.payloads.items) (c.deref.ensures.value ∙ read) c.in-Ok.ensures in
    let ends_here = subst (EndsAt c.in-Ok.gate c.in-Ok.payloads.items) (c.deref.ensures.value ∙ sym c.deref-2.ensures.value) c.in-Ok.ensures in
    subst (λ (n : List ℕ). Opens n old new) same
    (opens_shut name old (g.D.Disk.contents c.read_whole.new.disk) (subst (λ (n : List ℕ). IsSettled old n) (sym same) (c.requires.settled told)) (c.in_ok-bytes.ensures.kept told)
    start.0 seen c.in-Ok.gate c.in-Ok.payloads.items ends new
    (λ image left. c.in-Ok-close.ensures.crash told c.in-Ok.payloads.items image ends_here left) (c.in-Ok-close.ensures.others told))
