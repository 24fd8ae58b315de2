use Rattle.std.proofs.Common.{◌≡◌, ◌≤◌, [], None, true, sym, ap, ◌∙◌, arith, rules}
use Rattle.std.proofs.lemmas.List.Sorted.{IsPartitionPoint-from_clause}
use Rattle.pb_keys.specs.Order.{is_below}
use Rattle.pb_rows.specs.Layer.{KeyRow}
use Rattle.pb_synth.proofs.ShownLaws.{maps_below, rows_parted, rows_parted_as, rows_in_order, rows_shown}
use Rattle.pb_synth.proofs.rows.held_rows.Goals as goal

no_row : KeyRow
no_row = record { key = []; value = None }

pub prove-unreachable-requires : goal.prove-unreachable-requires
prove-unreachable-requires c =
    let rows = c.args.rows.now in let prefix = c.as_slice-prefix.result.now in let lo = c.lo-lo.result.now in let hi = c.hi-hi.result.now in
    let from = c.partition_point-from.result in let to = c.partition_point-to.result in
    let first = IsPartitionPoint-from_clause (maps_below prefix lo) rows from c.partition_point-from.ensures.partitioned (rows_parted rows prefix lo c.requires.rise) (λ a r f h. search rules) in
    let last = IsPartitionPoint-from_clause (maps_below prefix hi) rows to c.partition_point-to.ensures.partitioned (rows_parted rows prefix hi c.requires.rise) (λ a r f h. search rules) in
    let rises : is_below lo hi ≡ true = (λ i. is_below (c.lo-lo.ensures.value i) (c.hi-hi.ensures.value i)) ∙ c.lo-lo.ensures.in_form.rises in
    let ordered : from ≤ to = rows_in_order rows prefix lo hi from to no_row rises c.partition_point-from.ensures.bound first last in
    absurd (omega arith)

pub returns : goal.returns
returns c =
    let view = c.args.view.now in
    let rows = c.args.rows.now in let prefix = c.as_slice-prefix.result.now in let lo = c.lo-lo.result.now in let hi = c.hi-hi.result.now in
    let from = c.partition_point-from.result in let to = c.partition_point-to.result in
    let first = IsPartitionPoint-from_clause (maps_below prefix lo) rows from c.partition_point-from.ensures.partitioned (rows_parted rows prefix lo c.requires.rise) (λ a r f h. search rules) in
    let last = IsPartitionPoint-from_clause (maps_below prefix hi) rows to c.partition_point-to.ensures.partitioned (rows_parted rows prefix hi c.requires.rise) (λ a r f h. search rules) in
    let own = c.as_slice-prefix.ensures ∙ ap (λ v. v.prefix) c.view.view_is in
    sym (rows_shown view rows from to c.requires.view.mapping (omega arith) c.partition_point-to.ensures.bound
    (rows_parted_as rows from prefix view.prefix lo view.bounds.lo own (c.lo-lo.ensures.value ∙ ap (λ v. v.bounds.lo) c.view.view_is) first)
    (rows_parted_as rows to prefix view.prefix hi view.bounds.hi own (c.hi-hi.ensures.value ∙ ap (λ v. v.bounds.hi) c.view.view_is) last))
