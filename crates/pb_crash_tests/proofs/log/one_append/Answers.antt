use Rattle.std.proofs.Common.{◌≡◌, ℕ, List, [], ◌∷◌, sym, ap, ◌∙◌, subst}
use Rattle.pb_devices.specs.Contents.{MayLeave}
use Rattle.pb_gate_log.specs.EachLog.{LogPlace}
use Rattle.pb_gate_log.proofs.LogStates.{each_has}
use Rattle.pb_crash_tests.proofs.log.one_append.Goals as goal

pub returns : goal.returns
returns g c told image left =
    let new = g.D.Disk.contents c.append.new.disk in
    let each = (c.in_ok-append.ensures.appends told).ok [] (c.in_ok-log.ensures.ok told) in
    let same : c.append.new.self.file ≡ c.args.name = ap (λ (l : LogPlace). l.file) c.in_ok-append.ensures.place ∙ ap (λ (l : LogPlace). l.file) c.in_ok-log.ensures.place in
    each_has c.append.new.self (c.args.payload.now ∷ []) new each image (subst (λ (n : List ℕ). MayLeave new n image) (sym same) left)
