use Rattle.std.proofs.Common.{ap, sym, ◌∙◌, arith, subst}
use Rattle.std.specs.Ordering.{is_le}
use Rattle.pb_keys.specs.Key.{IsKey, key_cmp}
use Rattle.pb_rows.proofs.CheckLaws.{fall_at, rise_more, keys_more}
use Rattle.pb_rows.proofs.check.first_fall.Goals as goal
use Rattle.pb_rows.proofs.check.first_fall.Goals.{then-at-gt0+else-le, else-at-gt0}

pub returns-then-le-clause-answer : goal.returns-then-le-clause-answer
returns-then-le-clause-answer c =
    let row_key = ap (λ r. r.key) c.row.view_is in
    let before_key = ap (λ r. r.key) c.before-then-at-gt0.view_is in
    fall_at c.args.rows.now c.loop-at.at c.index-rows-at.result c.index-rows-at-then-at-gt0.result (omega arith) (omega arith) c.loop-at.invariant.rise c.index-rows-at-then-at-gt0.is c.index-rows-at.is
    ((λ i. is_le (key_cmp (sym row_key i) (sym before_key i))) ∙ sym c.le.ensures ∙ c.if-le.true)

pub loop-at-preserved : goal.loop-at-preserved
loop-at-preserved c = record {
  rise = elim c.if-at-gt0.branch [
    | then-at-gt0+else-le w ↦
        let row_key = ap (λ r. r.key) c.row.view_is in
        let before_key = ap (λ r. r.key) w.before-then-at-gt0.view_is in
        rise_more c.args.rows.now c.loop-at.at c.index-rows-at.result w.index-rows-at-then-at-gt0.result (omega arith) (omega arith) c.loop-at.invariant.rise w.index-rows-at-then-at-gt0.is c.index-rows-at.is
        ((λ i. is_le (key_cmp (sym row_key i) (sym before_key i))) ∙ sym w.le.ensures ∙ w.if-le.false)
    | else-at-gt0 w ↦ λ k d h. absurd (omega arith)
  ];
  keys = keys_more c.args.rows.now c.loop-at.at c.index-rows-at.result (omega arith) c.loop-at.invariant.keys c.index-rows-at.is (subst (λ k. IsKey k) (ap (λ r. r.key) c.row.view_is) c.as_bytes-bytes.ensures.in_form);
}
