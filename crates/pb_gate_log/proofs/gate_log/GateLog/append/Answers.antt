use Rattle.std.proofs.Common.{◌≡◌, ℕ, ◌+◌, List, length, max, sym, ap, ◌∙◌, subst, arith}
use Rattle.pb_gate_log.specs.EachLog.{EachLog, LogPlace}
use Rattle.pb_gate_log.proofs.AppendStates.{appends_entry, appends_moved, appends_no_entry, appends_no_gate, appends_nothing, gate_within}
use Rattle.pb_gate_log.proofs.LogStates.{log_at}
use Rattle.pb_gate_log.proofs.gate_log.GateLog.append.Goals as goal

pub returns-then-len-gt-MAX_PAYLOAD-clause-appends : goal.returns-then-len-gt-MAX_PAYLOAD-clause-appends
returns-then-len-gt-MAX_PAYLOAD-clause-appends g c told =
    let at = log_at c.self.inside.file c.self.inside.gate c.self.inside.len in
    appends_moved c.args.self.now at c.args.self.now at c.args.payload.now (g.D.Disk.contents c.args.disk.now) (g.D.Disk.contents c.args.disk.now) _ (sym c.self.view_is) (sym c.self.view_is)
    (appends_nothing c.self.inside.file c.self.inside.gate c.self.inside.len c.args.payload.now (g.D.Disk.contents c.args.disk.now) _)

pub returns-in_err-write_entry-clause-appends : goal.returns-in_err-write_entry-clause-appends
returns-in_err-write_entry-clause-appends g c told =
    let name = c.as_str-name.result.now in
    let gate = c.self.inside.gate in
    let len = c.self.inside.len in
    let same : c.args.self.now ≡ log_at name gate len = sym c.self.view_is ∙ ap (λ (f : List ℕ). log_at f gate len) (sym c.as_str-name.ensures.value) in
    appends_moved c.args.self.now (log_at name gate len) c.args.self.now (log_at name gate len) c.args.payload.now (g.D.Disk.contents c.args.disk.now) (g.D.Disk.contents c.write_entry.new.disk) c.from_residual.result same same
    (appends_no_entry name gate len c.args.payload.now (g.D.Disk.contents c.args.disk.now) c.from_residual.result c.from_residual.ensures.0 _ (g.D.Disk.contents c.write_entry.new.disk) (c.in_err-write_entry.ensures.stages told))

pub write_synced-requires : goal.write_synced-requires
write_synced-requires g c told =
    let name = c.as_str-name.result.now in
    let gate = c.self.inside.gate in
    let len = c.self.inside.len in
    let same : c.args.self.now ≡ log_at name gate len = sym c.self.view_is ∙ ap (λ (f : List ℕ). log_at f gate len) (sym c.as_str-name.ensures.value) in
    let has = c.requires told in
    gate_within name gate len c.args.payload.now (g.D.Disk.contents c.args.disk.now) _ has.0 (g.D.Disk.contents c.write_entry.new.disk) (c.in_ok-write_entry.ensures.stages told)
    (subst (λ (l : LogPlace). EachLog l has.0 (g.D.Disk.contents c.args.disk.now)) same has.1)

pub returns-in_err-write_synced-clause-appends : goal.returns-in_err-write_synced-clause-appends
returns-in_err-write_synced-clause-appends g c told =
    let name = c.as_str-name.result.now in
    let gate = c.self.inside.gate in
    let len = c.self.inside.len in
    let old = g.D.Disk.contents c.args.disk.now in
    let new = g.D.Disk.contents c.write_synced.new.disk in
    let same : c.args.self.now ≡ log_at name gate len = sym c.self.view_is ∙ ap (λ (f : List ℕ). log_at f gate len) (sym c.as_str-name.ensures.value) in
    appends_moved c.args.self.now (log_at name gate len) c.args.self.now (log_at name gate len) c.args.payload.now old new c.from_residual-in_err-write_synced.result same same
    (appends_no_gate name gate len c.args.payload.now old _ (g.D.Disk.contents c.write_entry.new.disk) new (omega arith) (c.in_ok-write_entry.ensures.stages told)
    c.from_residual-in_err-write_synced.result c.from_residual-in_err-write_synced.ensures.0 _
    (c.in_err-write_synced.ensures.writes told))

pub returns-clause-appends : goal.returns-clause-appends
returns-clause-appends g c told =
    let name = c.as_str-name.result.now in
    let file = c.self.inside.file in
    let gate = c.self.inside.gate in
    let len = c.self.inside.len in
    let end = c.max-self-inside.result in
    let payload = c.args.payload.now in
    let n = length payload in
    let old = g.D.Disk.contents c.args.disk.now in
    let mid = g.D.Disk.contents c.write_entry.new.disk in
    let new = g.D.Disk.contents c.write_synced.new.disk in
    let same : c.args.self.now ≡ log_at name gate len = sym c.self.view_is ∙ ap (λ (f : List ℕ). log_at f gate len) (sym c.as_str-name.ensures.value) in
    let same' : log_at file (gate + (5 + n)) end ≡ log_at name (gate + 5 + n) (max len (gate + 6 + n)) =
    ap (λ (f : List ℕ). log_at f (gate + (5 + n)) end) (sym c.as_str-name.ensures.value)
    ∙ ap (λ k. log_at name k end) (omega arith)
    ∙ ap (λ k. log_at name (gate + 5 + n) k) (omega (arith, c.max-self-inside.ensures)) in
    appends_moved c.args.self.now (log_at name gate len) (log_at file (gate + (5 + n)) end) (log_at name (gate + 5 + n) (max len (gate + 6 + n))) payload old new _ same same'
    (appends_entry name gate len payload old tt mid new (omega arith) (c.in_ok-write_entry.ensures.stages told) (c.in_ok-write_synced.ensures.writes told))
