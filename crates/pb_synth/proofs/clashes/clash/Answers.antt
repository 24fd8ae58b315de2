use Rattle.std.proofs.Common.{sym, ap, ◌∙◌, arith}
use Rattle.std.specs.Cmp.Lexicographic.{bytes_decides}
use Rattle.pb_keys.specs.Key.{prefix_of}
use Rattle.pb_synth.proofs.ClashLaws.{no_clash_more}
use Rattle.pb_synth.proofs.clashes.clash.Goals as goal
use Rattle.pb_synth.proofs.clashes.clash.Goals.{then-at-gt0+else-eq, else-at-gt0}

pub loop-at-preserved : goal.loop-at-preserved
loop-at-preserved c = elim c.if-at-gt0.branch [
  | then-at-gt0+else-eq w ↦
      let own = c.prefix-prefix.ensures.value ∙ ap (λ r. prefix_of r.key) c.row.view_is in
      let before = w.prefix.ensures.value ∙ ap (λ r. prefix_of r.key) w.before-then-at-gt0.view_is in
      no_clash_more c.args.rows.now c.loop-at.at c.index-rows-at.result w.index-rows-at-then-at-gt0.result (omega arith) (omega arith) c.loop-at.invariant w.index-rows-at-then-at-gt0.is c.index-rows-at.is
      (λ same.
      let test = w.eq.ensures ∙ (bytes_decides c.prefix-prefix.result.now w.prefix.result.now).1 (own ∙ same ∙ sym before) in
      let other = w.if-eq.false in
      cc)
  | else-at-gt0 w ↦ λ k d h. absurd (omega arith)
]
