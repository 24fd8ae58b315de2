use Rattle.std.proofs.Common.{◌≡◌, true, false, [], None, ap, sym, ◌∙◌, arith, rules, Some}
use Rattle.std.proofs.lemmas.List.Sorted.{IsPartitionPoint-from_clause}
use Rattle.std.specs.Cmp.Lexicographic.{bytes_decides}
use Rattle.pb_rows.proofs.LookLaws.{is_row_below, rows_are_parted, row_found, row_missing}
use Rattle.pb_rows.proofs.look.row_of.Goals as goal
use Rattle.pb_rows.proofs.look.row_of.Goals.{then-at-rows+else-eq, else-at-rows}

pub returns-then-eq : goal.returns-then-eq
returns-then-eq c =
    let parted = IsPartitionPoint-from_clause (is_row_below c.args.key.now) c.args.rows.now c.partition_point-at.result c.partition_point-at.ensures.partitioned (rows_are_parted c.args.rows.now c.args.key.now c.requires) (λ a r f h. search rules) in
    ap (λ r. Some r.value) c.index-rows-at.is
    ∙ sym (row_found c.args.rows.now c.args.key.now c.partition_point-at.result c.index-rows-at.result parted (omega arith)
    (sym (ap (λ r. r.key) c.index-rows-at.is) ∙ sym (ap (λ r. r.key) c.row.view_is) ∙ (bytes_decides c.row.inside.key c.args.key.now).0 (sym c.eq.ensures ∙ c.if-eq.true)))

pub returns : goal.returns
returns c =
    let parted = IsPartitionPoint-from_clause (is_row_below c.args.key.now) c.args.rows.now c.partition_point-at.result c.partition_point-at.ensures.partitioned (rows_are_parted c.args.rows.now c.args.key.now c.requires) (λ a r f h. search rules) in
    elim c.if-at-rows.branch [
      | then-at-rows+else-eq w ↦
          sym (row_missing c.args.rows.now c.args.key.now c.partition_point-at.result w.index-rows-at.result c.requires parted (λ h same.
          let key_is : w.row.inside.key ≡ c.args.key.now = ap (λ r. r.key) w.row.view_is ∙ ap (λ r. r.key) w.index-rows-at.is ∙ same in
          let test : w.eq.result ≡ true = w.eq.ensures ∙ (bytes_decides w.row.inside.key c.args.key.now).1 key_is in
          let other : w.eq.result ≡ false = w.if-eq.false in
          cc))
      | else-at-rows w ↦ sym (row_missing c.args.rows.now c.args.key.now c.partition_point-at.result (record { key = []; value = None }) c.requires parted (λ h same. absurd (omega (arith, w.if-at-rows.false))))
    ]
