use Rattle.std.proofs.Common.{◌+◌, ◌∙◌, List, ℕ, refl, sym, ap, subst, arith}
use Rattle.pebble_cli.specs.Folder.{KeepsLog}
use Rattle.pebble_cli.specs.Settings.{IsSet, payload_of}
use Rattle.pebble_cli.specs.Store.{Held}
use Rattle.pb_names.specs.Grammar.{IsName}
use Rattle.pb_devices.specs.Contents.{MayLeave}
use Rattle.pebble_cli.proofs.LoggedFacts.{next_set, logged, left_held}
use Rattle.pebble_cli.proofs.opened.Opened.set.Goals as goal

pub returns-clause-crash : goal.returns-clause-crash
returns-clause-crash g c = λ told image fault left.
    let held : Held = record { log = c.self.inside.log; count = c.self.inside.count; map = c.self.inside.pairs } in
    let old = g.D.Disk.contents c.args.disk.now in
    let keeps : KeepsLog held old = subst (λ (h : Held). KeepsLog h old) (sym c.self.view_is) (c.requires told) in
    let spelled = c.deref.ensures.value ∙ c.in_ok-payload.ensures
    ∙ ap (λ k. payload_of (record { count = c.self.inside.count + 1; key = k; value = c.as_bytes-2.result.now })) (c.as_bytes.ensures.value ∙ c.as_str.ensures)
    ∙ ap (λ v. payload_of (record { count = c.self.inside.count + 1; key = c.args.key; value = v })) (c.as_bytes-2.ensures.value ∙ c.as_str-2.ensures) in
    let is : IsSet (next_set held c.args.key c.args.value) =
    record { count = omega (arith, c.if-self-ge-COUNTS.false); key = subst IsName c.key.view_is c.key.invariant; value = subst IsName c.value.view_is c.value.invariant } in
    left_held held c.args.self.now c.deref.result.now c.args.key c.args.value old image c.self.view_is keeps spelled is
    ((c.in-Err.ensures.appends told).crash keeps.list image keeps.log (subst (λ (name : List ℕ). MayLeave (g.D.Disk.contents c.set_logged.new.disk) name image) (sym keeps.file) left))

pub returns-in-Ok-clause-kept : goal.returns-in-Ok-clause-kept
returns-in-Ok-clause-kept g c = λ told.
    let held : Held = record { log = c.self.inside.log; count = c.self.inside.count; map = c.self.inside.pairs } in
    let new : Held = record { log = c.set_logged.new.log; count = c.self.inside.count + 1; map = c.set_logged.new.self } in
    let old = g.D.Disk.contents c.args.disk.now in
    let keeps : KeepsLog held old = subst (λ (h : Held). KeepsLog h old) (sym c.self.view_is) (c.requires told) in
    let spelled = c.deref.ensures.value ∙ c.in_ok-payload.ensures
    ∙ ap (λ k. payload_of (record { count = c.self.inside.count + 1; key = k; value = c.as_bytes-2.result.now })) (c.as_bytes.ensures.value ∙ c.as_str.ensures)
    ∙ ap (λ v. payload_of (record { count = c.self.inside.count + 1; key = c.args.key; value = v })) (c.as_bytes-2.ensures.value ∙ c.as_str-2.ensures) in
    let is : IsSet (next_set held c.args.key c.args.value) =
    record { count = omega (arith, c.if-self-ge-COUNTS.false); key = subst IsName c.key.view_is c.key.invariant; value = subst IsName c.value.view_is c.value.invariant } in
    logged held new c.deref.result.now c.args.key c.args.value old (g.D.Disk.contents c.set_logged.new.disk) keeps (c.in-Ok.ensures.appends told).file refl c.in-Ok.ensures.map spelled is
    ((c.in-Ok.ensures.appends told).ok keeps.list keeps.log)
