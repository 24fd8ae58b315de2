use Rattle.std.proofs.Common.{◌≡◌, ◌≤◌, [], true, sym, ap, ◌∙◌, arith, rules}
use Rattle.std.proofs.lemmas.List.Sorted.{IsPartitionPoint-from_clause}
use Rattle.pb_keys.specs.Order.{is_below}
use Rattle.pb_keys.specs.Span.{span_of}
use Rattle.pb_synth.proofs.ShownLaws.{ends_upto, begins_below, ends_parted, begins_parted, ends_parted_as, begins_parted_as, spans_in_order, spans_shown}
use Rattle.pb_synth.proofs.dels.shown_dels.Goals as goal

pub prove-unreachable-requires : goal.prove-unreachable-requires
prove-unreachable-requires c =
    let dels = c.args.dels.now in let prefix = c.as_slice-prefix.result.now in let lo = c.lo-lo.result.now in let hi = c.hi-hi.result.now in
    let from = c.partition_point-from.result in let to = c.partition_point-to.result in
    let first = IsPartitionPoint-from_clause (ends_upto prefix lo) dels from c.partition_point-from.ensures.partitioned (ends_parted dels prefix lo c.requires.in_form c.requires.apart) (λ a r f h. search rules) in
    let last = IsPartitionPoint-from_clause (begins_below prefix hi) dels to c.partition_point-to.ensures.partitioned (begins_parted dels prefix hi c.requires.in_form c.requires.apart) (λ a r f h. search rules) in
    let rises : is_below lo hi ≡ true = (λ i. is_below (c.lo-lo.ensures.value i) (c.hi-hi.ensures.value i)) ∙ c.lo-lo.ensures.in_form.rises in
    let ordered : from ≤ to = spans_in_order dels prefix lo hi from to (span_of [] []) c.requires.in_form rises c.partition_point-from.ensures.bound first last in
    absurd (omega arith)

pub returns : goal.returns
returns c =
    let view = c.args.view.now in
    let dels = c.args.dels.now in let prefix = c.as_slice-prefix.result.now in let lo = c.lo-lo.result.now in let hi = c.hi-hi.result.now in
    let from = c.partition_point-from.result in let to = c.partition_point-to.result in
    let first = IsPartitionPoint-from_clause (ends_upto prefix lo) dels from c.partition_point-from.ensures.partitioned (ends_parted dels prefix lo c.requires.in_form c.requires.apart) (λ a r f h. search rules) in
    let last = IsPartitionPoint-from_clause (begins_below prefix hi) dels to c.partition_point-to.ensures.partitioned (begins_parted dels prefix hi c.requires.in_form c.requires.apart) (λ a r f h. search rules) in
    let own = c.as_slice-prefix.ensures ∙ ap (λ v. v.prefix) c.view.view_is in
    sym (spans_shown view dels from to (omega arith) c.partition_point-to.ensures.bound
    (ends_parted_as dels from prefix view.prefix lo view.bounds.lo own (c.lo-lo.ensures.value ∙ ap (λ v. v.bounds.lo) c.view.view_is) first)
    (begins_parted_as dels to prefix view.prefix hi view.bounds.hi own (c.hi-hi.ensures.value ∙ ap (λ v. v.bounds.hi) c.view.view_is) last))
